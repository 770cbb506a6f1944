-- How far a life is by what crossed: by deeds it is as far as `Ends` of `promise` says.
use Rattle.book_judge.proofs.Common.{◌≡◌, ℕ, ◌==◌, ◌&&◌, Bool, true, false, not, if◌then◌else◌, List, [], ◌∷◌, ◌++◌, length, refl, ap, ◌∙◌, Host, same_host, Crossing, orders_of, Legal, Order, Wrong, Life, Deed, Command}
use Rattle.promise.specs.Ends.{Course, Dropped, course}
use Rattle.book_judge.specs.Inside.Deeds.{after, deeds_at, deeds_by, deeds_in, opening, step, act_of, with_act}
use Rattle.interface.specs.declared.crossing.Answer.TheVariants as answer
use Rattle.interface.specs.declared.crossing.Crossing.TheVariants as crossing
use Rattle.ncp_control.specs.declared.command.Command.TheVariants as command
use Rattle.promise.specs.Ends as ends

-- ---- one deed after another

pub after_append : (x : Life) (deeds more : List Deed) (k : Course)
    → after x (deeds ++ more) k ≡ after x more (after x deeds k)
after_append x [] more k = refl
after_append x (d ∷ deeds) more k = after_append x deeds more (step x d k)

-- ---- commands

-- what a host makes of a command that it takes, or sends
abbrev done : Bool → Life → ℕ → Command → Course → Course
done true x place c k = ends.heard x place c k
done false x place c k = ends.said x place c k

idle : (b : Bool) (k : Course) → k ≡ (if b then k else k)
idle true k = refl
idle false k = refl

-- whether a deed is one of a life's host, about its peer
abbrev meant : Life → Host → Host → Bool
meant x host peer = same_host x.host host && same_host x.peer peer

one_command : (comes : Bool) (x : Life) (place : ℕ) (host peer : Host) (c : Command) (more : List Deed) (k : Course)
    → after x (with_act place host peer (act_of comes c) more) k
    ≡ after x more (if meant x host peer then done comes x place c k else k)
one_command true x place host peer (command.Rts receive send link) more k = refl
one_command false x place host peer (command.Rts receive send link) more k = refl
one_command true x place host peer (command.Str send receive size) more k = refl
one_command false x place host peer (command.Str send receive size) more k = refl
one_command true x place host peer (command.Cls own foreign) more k = refl
one_command false x place host peer (command.Cls own foreign) more k = refl
one_command true x place host peer command.Rst more k = refl
one_command false x place host peer command.Rst more k = refl
one_command true x place host peer command.Rrp more k = ap (after x more) (idle (meant x host peer) k)
one_command false x place host peer command.Rrp more k = refl
one_command true x place host peer command.Nop more k = ap (after x more) (idle (meant x host peer) k)
one_command false x place host peer command.Nop more k = ap (after x more) (idle (meant x host peer) k)
one_command true x place host peer (command.All link messages bits) more k =
    ap (after x more) (idle (meant x host peer) k)
one_command false x place host peer (command.All link messages bits) more k =
    ap (after x more) (idle (meant x host peer) k)
one_command true x place host peer (command.Gvb link messages bits) more k =
    ap (after x more) (idle (meant x host peer) k)
one_command false x place host peer (command.Gvb link messages bits) more k =
    ap (after x more) (idle (meant x host peer) k)
one_command true x place host peer (command.Ret link messages bits) more k =
    ap (after x more) (idle (meant x host peer) k)
one_command false x place host peer (command.Ret link messages bits) more k =
    ap (after x more) (idle (meant x host peer) k)
one_command true x place host peer (command.Inr link) more k = ap (after x more) (idle (meant x host peer) k)
one_command false x place host peer (command.Inr link) more k = ap (after x more) (idle (meant x host peer) k)
one_command true x place host peer (command.Ins link) more k = ap (after x more) (idle (meant x host peer) k)
one_command false x place host peer (command.Ins link) more k = ap (after x more) (idle (meant x host peer) k)
one_command true x place host peer (command.Eco octet) more k = ap (after x more) (idle (meant x host peer) k)
one_command false x place host peer (command.Eco octet) more k = ap (after x more) (idle (meant x host peer) k)
one_command true x place host peer (command.Erp octet) more k = ap (after x more) (idle (meant x host peer) k)
one_command false x place host peer (command.Erp octet) more k = ap (after x more) (idle (meant x host peer) k)
one_command true x place host peer (command.Err code detail) more k = ap (after x more) (idle (meant x host peer) k)
one_command false x place host peer (command.Err code detail) more k = ap (after x more) (idle (meant x host peer) k)

each_if : (b comes : Bool) (x : Life) (place : ℕ) (c : Command) (orders : List Order) (k : Course)
    →
    (if b then ends.each (done comes x place) orders (if b then done comes x place c k else k) else (if b then done comes x place c k else k))
    ≡ (if b then ends.each (done comes x place) orders (done comes x place c k) else k)
each_if true comes x place c orders k = refl
each_if false comes x place c orders k = refl

each_same : (comes : Bool) (x : Life) (place : ℕ) (host peer : Host) (orders : List Order) (k : Course)
    → after x (deeds_by comes place host peer orders) k
    ≡ (if meant x host peer then ends.each (done comes x place) orders k else k)
each_same comes x place host peer [] k = idle (meant x host peer) k
each_same comes x place host peer (Legal c ∷ orders) k =
    one_command comes x place host peer c (deeds_by comes place host peer orders) k
    ∙ each_same comes x place host peer orders (if meant x host peer then done comes x place c k else k)
    ∙ each_if (meant x host peer) comes x place c orders k
each_same comes x place host peer (Wrong code octets ∷ orders) k =
    each_wrong (meant x host peer) (each_same comes x place host peer orders k) where
      each_wrong : (b : Bool)
          → after x (deeds_by comes place host peer orders) k
          ≡ (if b then ends.each (done comes x place) orders k else k)
          → after x (deeds_by comes place host peer orders) k
          ≡ (if b then ends.each (done comes x place) (Wrong code octets ∷ orders) k else k)
      each_wrong true e = e
      each_wrong false e = e

-- ---- crossings

message_if : (a b l : Bool) (x : Life) (deeds : List Deed) (k' k : Course)
    → after x deeds k ≡ (if a && b then k' else k)
    → after x (if l then deeds else []) k ≡ (if a && b && l then k' else k)
message_if true true true x deeds k' k e = e
message_if true false true x deeds k' k e = e
message_if false b true x deeds k' k e = e
message_if true true false x deeds k' k e = refl
message_if true false false x deeds k' k e = refl
message_if false b false x deeds k' k e = refl

failed : (a b o : Bool) (k' k : Course) → (if a && b then (if o then k else k') else k)
    ≡ (if (a && b) && not o then k' else k)
failed true true true k' k = refl
failed true true false k' k = refl
failed true false o k' k = refl
failed false b o k' k = refl

turned : (a : Bool) (k' k : Course) → (if a && true then k' else k) ≡ (if a then k' else k)
turned true k' k = refl
turned false k' k = refl

pub one_crossing : (x : Life) (place : ℕ) (c : Crossing) (k : Course)
    → after x (deeds_at place c) k ≡ ends.crosses x place c k
one_crossing x place (crossing.Out m) k =
    message_if (same_host x.host m.flow.source) (same_host x.peer m.flow.destination) (0 == m.flow.link.0) x
    (deeds_by false place m.flow.source m.flow.destination (orders_of m.text))
    (ends.each (ends.said x place) (orders_of m.text) k) k
    (each_same false x place m.flow.source m.flow.destination (orders_of m.text) k)
one_crossing x place (crossing.In m) k =
    taken (same_host x.host m.flow.destination) (same_host x.peer m.flow.source) (0 == m.flow.link.0)
    (each_same true x place m.flow.destination m.flow.source (orders_of m.text) k) where
      deeds : List Deed
      deeds = deeds_by true place m.flow.destination m.flow.source (orders_of m.text)

      heard : Course
      heard = ends.each (ends.heard x place) (orders_of m.text) k

      taken : (a b l : Bool) → after x deeds k ≡ (if a && b then heard else k)
          → after x (if l then deeds else []) k ≡ (if b && a && l then heard else k)
      taken true true true e = e
      taken true false true e = e
      taken false true true e = e
      taken false false true e = e
      taken true true false e = refl
      taken true false false e = refl
      taken false true false e = refl
      taken false false false e = refl
one_crossing x place (crossing.Answer answer.Rfnm f) k = refl
one_crossing x place (crossing.Answer answer.Incomplete f) k =
    failed (same_host x.host f.source) (same_host x.peer f.destination) k.owes
    (ends.ended_by (ends.cut Dropped place) k) k
one_crossing x place (crossing.Answer answer.Dead f) k =
    failed (same_host x.host f.source) (same_host x.peer f.destination) k.owes
    (ends.ended_by (ends.cut Dropped place) k) k
one_crossing x place (crossing.Answer answer.NotTaken f) k =
    failed (same_host x.host f.source) (same_host x.peer f.destination) k.owes
    (ends.ended_by (ends.cut Dropped place) k) k
one_crossing x place (crossing.Down h) k =
    turned (same_host x.host h) (record (ends.ended_by (ends.cut ends.Stopped place) k) { owes = false }) k
one_crossing x place (crossing.Up h) k = turned (same_host x.host h) (record k { owes = false }) k

-- after all that crossed, the newest first
pub all_crossings : (x : Life) (log : List Crossing) → after x (deeds_in log) opening ≡ course [] x log
all_crossings x [] = refl
all_crossings x (c ∷ log) =
    after_append x (deeds_in log) (deeds_at (length log) c) opening
    ∙ ap (after x (deeds_at (length log) c)) (all_crossings x log)
    ∙ one_crossing x (length log) c (course [] x log)
