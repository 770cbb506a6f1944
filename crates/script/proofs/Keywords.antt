-- Events as lines: a keyword, and what follows it.
use Rattle.script.proofs.Common.{All-nil, All-cons, decimal, list_any, Host, host_text, flow_text, Flow, Direction, HostMessage, RawEvent}
use Rattle.std.proofs.Common.{◌≡◌, ◌≢◌, ℕ, ◌==◌, Bool, true, false, List, [], ◌∷◌, ◌++◌, codes, refl, sym, ap, ◌∙◌, subst, eqb, if◌then◌else◌}
use Rattle.std.proofs.lemmas.Bool.{false≢true, or_parts, eq-eqb}
use Rattle.std.specs.Cmp.Lexicographic.{pointwise}
use Rattle.std.specs.Prelude.{IsTrue, ◌↔◌}
use Rattle.std.specs.Str.{bytes_eq}
use Rattle.interface.specs.declared.event.NetEvent.{NetEvent}
use Rattle.interface.specs.declared.event.NetEvent.TheVariants as net
use Rattle.script.specs.declared.event.RawEvent.TheVariants as event
use Rattle.script.specs.Spelling.{spelling, net_spelling, IsEvent, IsNetEvent, IsMessage, IsHost, IsFlow, IsImp, IsIndex, message_text}
use Rattle.script.specs.Steps.{Lacks, IsOfHosts, IsOfImps, IsOfLines, frame_text, IsFrame, pair_text, IsEnd, AreImps}
use Rattle.script.proofs.Words.{SameCut, same_cut, uncut}

pub unmarked_where : (mark : ℕ) (xs : List ℕ) → list_any (λ x. x == mark) xs ≡ false → Lacks mark xs
unmarked_where mark [] h = All-nil (λ x. (x == mark) ≡ false)
unmarked_where mark (x ∷ xs) h =
    let both = or_parts (x == mark) (list_any (λ z. z == mark) xs) h in
    All-cons (λ z. (z == mark) ≡ false) x xs both.0 (unmarked_where mark xs both.1)

-- a word that was compared and differs
same_octets : (xs : List ℕ) → pointwise eqb xs xs ≡ true
same_octets [] = refl
same_octets (x ∷ xs) = rw (eq-eqb x x refl, same_octets xs) refl

pub differs : (word key : List ℕ) (slice : List ℕ) (test : Bool) → test ≡ pointwise eqb word slice → slice ≡ key → test ≡ false → word ≢ key
differs word key slice test compared is unlike e =
    false≢true (sym unlike ∙ compared ∙ ap (λ xs. pointwise eqb word xs) (is ∙ sym e) ∙ same_octets word)

-- and one that `is_word` distinguishes
pub other_word : (word key : List ℕ) (test : Bool) → (IsTrue test ↔ (word ≡ key)) → test ≡ false → word ≢ key
other_word word key test compared unlike e = false≢true (sym unlike ∙ compared.1 e)

-- ---- a keyword, and an operand of its kind

pub data Kind : Type 0 where
  Messages : Kind
  Hosts : Kind
  Flows : Kind
  Imps : Kind
  Twos : Kind
  Frames : Kind
  Ends : Kind
  Counts : Kind

abbrev pub OperandOf : Kind → Type 0
OperandOf Messages = HostMessage
OperandOf Hosts = Host
OperandOf Flows = Flow
OperandOf Imps = ℕ
OperandOf Twos = ℕ × ℕ
OperandOf Frames = ℕ × Direction × ℕ
OperandOf Ends = ℕ × ℕ
OperandOf Counts = ℕ

abbrev pub text_of : (k : Kind) → OperandOf k → List ℕ
text_of Messages m = message_text m
text_of Hosts h = host_text h
text_of Flows f = flow_text f
text_of Imps i = decimal i
text_of Twos p = pair_text p
text_of Frames f = frame_text f
text_of Ends p = pair_text p
text_of Counts n = decimal n

abbrev pub IsMeant : (k : Kind) → OperandOf k → Type 0
IsMeant Messages m = IsMessage m
IsMeant Hosts h = IsHost h
IsMeant Flows f = IsFlow f
IsMeant Imps i = IsImp i
IsMeant Twos p = AreImps p
IsMeant Frames f = IsFrame f
IsMeant Ends p = IsEnd p
IsMeant Counts n = IsIndex n

abbrev pub keyword : RawEvent → List ℕ
keyword (event.Out m) = codes "out"
keyword (event.Take h) = codes "take"
keyword (event.Calm n) = codes "calm"
keyword (event.Net (net.HostDown h)) = codes "hostdown"
keyword (event.Net (net.HostUp h)) = codes "hostup"
keyword (event.Net (net.GiveUp f)) = codes "giveup"
keyword (event.Net (net.Abandon f)) = codes "abandon"
keyword (event.Net (net.Ask f)) = codes "ask"
keyword (event.Net (net.Resend i)) = codes "resend"
keyword (event.Net (net.Route i)) = codes "route"
keyword (event.Net (net.Claim i)) = codes "claim"
keyword (event.Net (net.ImpDown i)) = codes "impdown"
keyword (event.Net (net.ImpUp i)) = codes "impup"
keyword (event.Net (net.Forget at from)) = codes "forget"
keyword (event.Net (net.Deliver l d k)) = codes "deliver"
keyword (event.Net (net.Drop l d k)) = codes "drop"
keyword (event.Net (net.Garble l d k)) = codes "garble"
keyword (event.Net (net.EndDown i l)) = codes "enddown"
keyword (event.Net (net.EndUp i l)) = codes "endup"

-- the kind of a keyword's operand, and the event that they make
abbrev pub made : List ℕ → (k : Kind) × (OperandOf k → RawEvent)
made word =
    if bytes_eq word (codes "out") then (Messages, λ x. event.Out x) else (
    if bytes_eq word (codes "take") then (Hosts, λ x. event.Take x) else (
    if bytes_eq word (codes "calm") then (Counts, λ x. event.Calm x) else (
    if bytes_eq word (codes "hostdown") then (Hosts, λ x. event.Net (net.HostDown x)) else (
    if bytes_eq word (codes "hostup") then (Hosts, λ x. event.Net (net.HostUp x)) else (
    if bytes_eq word (codes "giveup") then (Flows, λ x. event.Net (net.GiveUp x)) else (
    if bytes_eq word (codes "abandon") then (Flows, λ x. event.Net (net.Abandon x)) else (
    if bytes_eq word (codes "ask") then (Flows, λ x. event.Net (net.Ask x)) else (
    if bytes_eq word (codes "resend") then (Imps, λ x. event.Net (net.Resend x)) else (
    if bytes_eq word (codes "route") then (Imps, λ x. event.Net (net.Route x)) else (
    if bytes_eq word (codes "claim") then (Imps, λ x. event.Net (net.Claim x)) else (
    if bytes_eq word (codes "impdown") then (Imps, λ x. event.Net (net.ImpDown x)) else (
    if bytes_eq word (codes "impup") then (Imps, λ x. event.Net (net.ImpUp x)) else (
    if bytes_eq word (codes "forget") then (Twos, λ x. event.Net (net.Forget x.0 x.1)) else (
    if bytes_eq word (codes "deliver") then (Frames, λ x. event.Net (net.Deliver x.0 x.1 x.2)) else (
    if bytes_eq word (codes "drop") then (Frames, λ x. event.Net (net.Drop x.0 x.1 x.2)) else (
    if bytes_eq word (codes "garble") then (Frames, λ x. event.Net (net.Garble x.0 x.1 x.2)) else (
    if bytes_eq word (codes "enddown") then (Ends, λ x. event.Net (net.EndDown x.0 x.1)) else (
    (Ends, λ x. event.Net (net.EndUp x.0 x.1))))))))))))))))))))

abbrev pub operand : (e : RawEvent) → OperandOf (made (keyword e)).0
operand (event.Out m) = m
operand (event.Take h) = h
operand (event.Calm n) = n
operand (event.Net (net.HostDown h)) = h
operand (event.Net (net.HostUp h)) = h
operand (event.Net (net.GiveUp f)) = f
operand (event.Net (net.Abandon f)) = f
operand (event.Net (net.Ask f)) = f
operand (event.Net (net.Resend i)) = i
operand (event.Net (net.Route i)) = i
operand (event.Net (net.Claim i)) = i
operand (event.Net (net.ImpDown i)) = i
operand (event.Net (net.ImpUp i)) = i
operand (event.Net (net.Forget at from)) = (at, from)
operand (event.Net (net.Deliver l d k)) = (l, d, k)
operand (event.Net (net.Drop l d k)) = (l, d, k)
operand (event.Net (net.Garble l d k)) = (l, d, k)
operand (event.Net (net.EndDown i l)) = (i, l)
operand (event.Net (net.EndUp i l)) = (i, l)

pub made_again : (e : RawEvent) → (made (keyword e)).1 (operand e) ≡ e
made_again (event.Out m) = refl
made_again (event.Net (net.HostDown h)) = refl
made_again e = refl

pub spelled : (e : RawEvent) → spelling e ≡ keyword e ++ 32 ∷ text_of (made (keyword e)).0 (operand e)
spelled (event.Out m) = refl
spelled (event.Net (net.HostDown h)) = refl
spelled e = refl

pub is_meant : (e : RawEvent) → IsEvent e → IsMeant (made (keyword e)).0 (operand e)
is_meant (event.Out m) is = is
is_meant (event.Net (net.HostDown h)) is = is
is_meant e is = is

pub plain : (e : RawEvent) → list_any (λ x. x == 32) (keyword e) ≡ false
plain (event.Out m) = refl
plain (event.Net (net.HostDown h)) = refl
plain e = refl

-- ---- lines that are no events

-- a line without a space is no event
pub no_space : (line : List ℕ) → Lacks 32 line → (x : RawEvent) → IsEvent x → line ≢ spelling x
no_space line h x meant e = uncut 32 (keyword x) (text_of (made (keyword x)).0 (operand x)) (subst (Lacks 32) (e ∙ spelled x) h)

-- a line begins with its event's keyword
pub first_word : (word rest : List ℕ) (x : RawEvent) → Lacks 32 word → word ++ 32 ∷ rest ≡ spelling x → word ≡ keyword x
first_word word rest x h e =
    let cut : SameCut word rest (keyword x) (text_of (made (keyword x)).0 (operand x)) = same_cut 32 word rest (keyword x) (text_of (made (keyword x)).0 (operand x)) h (unmarked_where 32 (keyword x) (plain x)) (e ∙ spelled x) in
    cut.front

-- a line whose operand spells none of its keyword's kind is no event
pub no_operand : (key word rest : List ℕ) → word ≡ key → Lacks 32 word → ((z : OperandOf (made key).0) → IsMeant (made key).0 z → rest ≢ text_of (made key).0 z) → (x : NetEvent) → IsNetEvent x → word ++ 32 ∷ rest ≢ net_spelling x
no_operand key word rest is h none x meant e =
    let y : RawEvent = event.Net x in
    let cut : SameCut word rest (keyword y) (text_of (made (keyword y)).0 (operand y)) = same_cut 32 word rest (keyword y) (text_of (made (keyword y)).0 (operand y)) h (unmarked_where 32 (keyword y) (plain y)) (e ∙ spelled y) in
    let F : List ℕ → Type 0 = λ w. (z : OperandOf (made w).0) → IsMeant (made w).0 z → rest ≢ text_of (made w).0 z in
    let there : F (keyword y) = subst F (sym is ∙ cut.front) none in
    there (operand y) (is_meant y meant) cut.back

-- a line with another first word is none of these events
pub no_host_event : (word rest : List ℕ) → Lacks 32 word → word ≢ codes "giveup" → word ≢ codes "abandon" → word ≢ codes "ask" → word ≢ codes "hostdown" → word ≢ codes "hostup"
    → (x : NetEvent) → IsOfHosts x → word ++ 32 ∷ rest ≢ net_spelling x
no_host_event word rest h giveup abandon ask hostdown hostup x meant e = of_hosts x meant (first_word word rest (event.Net x) h e) where
  of_hosts : (y : NetEvent) → IsOfHosts y → word ≡ keyword (event.Net y) → ⊥
  of_hosts (net.HostDown h) meant same = hostdown same
  of_hosts (net.HostUp h) meant same = hostup same
  of_hosts (net.GiveUp f) meant same = giveup same
  of_hosts (net.Abandon f) meant same = abandon same
  of_hosts (net.Ask f) meant same = ask same
  of_hosts y meant same = absurd meant

-- a line with another first word is none of these events
pub no_imp_event : (word rest : List ℕ) → Lacks 32 word → word ≢ codes "resend" → word ≢ codes "route" → word ≢ codes "claim" → word ≢ codes "impdown" → word ≢ codes "impup" → word ≢ codes "forget"
    → (x : NetEvent) → IsOfImps x → word ++ 32 ∷ rest ≢ net_spelling x
no_imp_event word rest h resend route claim impdown impup forget x meant e = of_imps x meant (first_word word rest (event.Net x) h e) where
  of_imps : (y : NetEvent) → IsOfImps y → word ≡ keyword (event.Net y) → ⊥
  of_imps (net.Resend i) meant same = resend same
  of_imps (net.Route i) meant same = route same
  of_imps (net.Claim i) meant same = claim same
  of_imps (net.ImpDown i) meant same = impdown same
  of_imps (net.ImpUp i) meant same = impup same
  of_imps (net.Forget at from) meant same = forget same
  of_imps y meant same = absurd meant

-- a line with another first word is none of these events
pub no_line_event : (word rest : List ℕ) → Lacks 32 word → word ≢ codes "deliver" → word ≢ codes "drop" → word ≢ codes "garble" → word ≢ codes "enddown" → word ≢ codes "endup"
    → (x : NetEvent) → IsOfLines x → word ++ 32 ∷ rest ≢ net_spelling x
no_line_event word rest h deliver drop garble enddown endup x meant e = of_lines x meant (first_word word rest (event.Net x) h e) where
  of_lines : (y : NetEvent) → IsOfLines y → word ≡ keyword (event.Net y) → ⊥
  of_lines (net.Deliver l d k) meant same = deliver same
  of_lines (net.Drop l d k) meant same = drop same
  of_lines (net.Garble l d k) meant same = garble same
  of_lines (net.EndDown i l) meant same = enddown same
  of_lines (net.EndUp i l) meant same = endup same
  of_lines y meant same = absurd meant

-- the events by what they name are events inside a network
pub is_imp_event : (x : NetEvent) → IsOfImps x → IsNetEvent x
is_imp_event (net.Resend i) meant = meant
is_imp_event (net.Route i) meant = meant
is_imp_event (net.Claim i) meant = meant
is_imp_event (net.ImpDown i) meant = meant
is_imp_event (net.ImpUp i) meant = meant
is_imp_event (net.Forget at from) meant = meant
is_imp_event x meant = absurd meant

pub is_line_event : (x : NetEvent) → IsOfLines x → IsNetEvent x
is_line_event (net.Deliver l d k) meant = meant
is_line_event (net.Drop l d k) meant = meant
is_line_event (net.Garble l d k) meant = meant
is_line_event (net.EndDown i l) meant = meant
is_line_event (net.EndUp i l) meant = meant
is_line_event x meant = absurd meant

-- a line with another first word than `out`, `take` and `calm` is an event inside a network, or none
pub no_event : (word rest : List ℕ) → Lacks 32 word → word ≢ codes "out" → word ≢ codes "take" → word ≢ codes "calm" → ((x : NetEvent) → IsNetEvent x → word ++ 32 ∷ rest ≢ net_spelling x) → (x : RawEvent) → IsEvent x → word ++ 32 ∷ rest ≢ spelling x
no_event word rest h out take calm none (event.Out m) meant e = out (first_word word rest (event.Out m) h e)
no_event word rest h out take calm none (event.Take g) meant e = take (first_word word rest (event.Take g) h e)
no_event word rest h out take calm none (event.Calm n) meant e = calm (first_word word rest (event.Calm n) h e)
no_event word rest h out take calm none (event.Net x) meant e = none x meant e
