-- What goes out, at one pair of sockets.
use Rattle.host_keeps_pairing.proofs.Common.{◌≡◌, ℕ, ◌≤◌, Bool, true, false, if◌then◌else◌, List, [], ◌∷◌, ◌++◌, take, drop, refl, ap, sym, subst, ◌∙◌, append_assoc, Host, Command, End, gone, Mark, Ask, Close, changed_first, changed_at, PairState, commands_of, DeskState, desk_of, is_ready, Parcel, cls_sent, command_gone, commands_gone, link_of, pair_after, parcel_gone, request_gone, Entry, Listener, MayAllGo, all_gone, mark_of, marks, Standing, at, HasEnd, Stand}
use Rattle.std.proofs.Common.{◌*◌}
use Rattle.std.proofs.lemmas.List.{take-append-drop}
use Rattle.ncp_control.specs.declared.command.Command.TheVariants as command
use Rattle.host_pairs.specs.Allowed.{MayGo}
use Rattle.ncp_control.specs.declared.phase.Phase.TheVariants as phase
use Rattle.host_pairs.specs.Parcels as parcel
use Rattle.host_pairs.specs.Parcels.{asked_at, bits_gone, may_send_on}
use Rattle.host_pairs.proofs.lemmas.{all_gone_queue}
use Rattle.host_keeps_pairing.proofs.Lists.{are, marks_append, at_quiet}
use Rattle.host_keeps_pairing.proofs.Desks.{change_away, change_here, ends_swept, loose, stand_same}
use Rattle.host_keeps_pairing.proofs.Stands.{asks_at, closes_now, may_all, stand_asks, stand_closes}

pub all_gone_append : (ms ns : List Mark) (x : End) → all_gone (ms ++ ns) x ≡ all_gone ns (all_gone ms x)
all_gone_append [] ns x = refl
all_gone_append (m ∷ ms) ns x = all_gone_append ms ns (gone m x)

module _ (origin : ℕ → ℕ) (own foreign place : ℕ) where
  -- there is an end where something waits
  pub one_there : (done : Bool) (ss : List Standing) (m : Mark) (words : List Mark) (x : End) → Stand done origin place ss (m ∷ words) x → (P : Type 0) → ((s : Standing) (rest : List Standing) → ss ≡ s ∷ rest → P) → P
  one_there done [] m words x h P k = absurd (let r : m ∷ words ≡ [] = h.0 in cc)
  one_there done (s ∷ ss) m words x h P k = k s ss refl

  -- a request
  request_here : (peer : Host) (stamp a b : ℕ) (d : DeskState) (words : List Mark) (x : End) → are a b own foreign ≡ true → Stand true origin place (at own foreign d.entries) (Ask place ∷ words) x
      → Stand true origin place (at own foreign (request_gone peer stamp a b d).entries) words (gone (Ask stamp) x)
  request_here peer stamp a b d words x t h =
      one_there true _ _ words x h _
      (λ s rest same. change_here origin own foreign place true a b (asks_at stamp) (asked_at stamp) d.entries (Ask place ∷ words) words x (gone (Ask stamp) x) (λ y. (refl, refl, refl)) t h
      (λ r more there j. stand_asks origin place stamp r words x j) s rest same)

  pub request_by : (peer : Host) (stamp a b : ℕ) (d : DeskState) (words : List Mark) (x : End) (t : Bool) → are a b own foreign ≡ t → Stand true origin place (at own foreign d.entries) ((if t then Ask place ∷ [] else []) ++ words) x
      → Stand true origin place (at own foreign (request_gone peer stamp a b d).entries) words (all_gone (if t then Ask stamp ∷ [] else []) x)
  request_by peer stamp a b d words x true t h = request_here peer stamp a b d words x t h
  request_by peer stamp a b d words x false t h = change_away origin own foreign place true a b (asks_at stamp) _ _ words x (λ y. (refl, refl, refl)) t h

  -- a CLS
  cls_here : (a b : ℕ) (d : DeskState) (words : List Mark) (x : End) → are a b own foreign ≡ true → Stand true origin place (at own foreign d.entries) (Close ∷ words) x
      → Stand false origin place (at own foreign (changed_at a b cls_sent d.entries)) words (gone Close x)
  cls_here a b d words x t h =
      one_there true _ Close words x h _
      (λ s rest same. change_here origin own foreign place false a b closes_now cls_sent d.entries (Close ∷ words) words x (gone Close x) (λ y. (refl, refl, refl)) t h
      (λ r more there j. stand_closes origin place r words x j) s rest same)

  -- before the ends that are over go
  pub cls_unswept : (a b : ℕ) (d : DeskState) (words : List Mark) (x : End) (t : Bool) → are a b own foreign ≡ t → Stand true origin place (at own foreign d.entries) ((if t then Close ∷ [] else []) ++ words) x
      → Stand false origin place (at own foreign (changed_at a b cls_sent d.entries)) words (all_gone (if t then Close ∷ [] else []) x)
  cls_unswept a b d words x true t h = cls_here a b d words x t h
  cls_unswept a b d words x false t h =
      loose origin own foreign place _ words x (change_away origin own foreign place true a b closes_now cls_sent _ words x (λ y. (refl, refl, refl)) t h)

  cls_by : (peer : Host) (stamp a b : ℕ) (d : DeskState) (words : List Mark) (x : End) (t : Bool) → are a b own foreign ≡ t → Stand true origin place (at own foreign d.entries) ((if t then Close ∷ [] else []) ++ words) x
      → Stand true origin place (at own foreign (command_gone peer stamp (command.Cls a b) d).entries) words (all_gone (if t then Close ∷ [] else []) x)
  cls_by peer stamp a b d words x t e h = ends_swept origin own foreign place _ words _ (cls_unswept a b d words x t e h)

  pub one_gone : (peer : Host) (stamp : ℕ) (c : Command) (d : DeskState) (words : List Mark) (x : End) → Stand true origin place (at own foreign d.entries) (mark_of place own foreign c ++ words) x
      → Stand true origin place (at own foreign (command_gone peer stamp c d).entries) words (all_gone (mark_of stamp own foreign c) x)
  one_gone peer stamp (command.Rts receive send link) d words x h = request_by peer stamp receive send d words x _ refl h
  one_gone peer stamp (command.Str send receive size) d words x h = request_by peer stamp send receive d words x _ refl h
  one_gone peer stamp (command.Cls mine yours) d words x h = cls_by peer stamp mine yours d words x _ refl h
  one_gone peer stamp c d words x h = h

  all_go : (peer : Host) (stamp : ℕ) (cs : List Command) (d : DeskState) (words : List Mark) (x : End) → Stand true origin place (at own foreign d.entries) (marks place own foreign cs ++ words) x
      → Stand true origin place (at own foreign (commands_gone peer stamp cs d).entries) words (all_gone (marks stamp own foreign cs) x)
  all_go peer stamp [] d words x h = h
  all_go peer stamp (c ∷ cs) d words x h =
      let first : Stand true origin place (at own foreign d.entries) (mark_of place own foreign c ++ (marks place own foreign cs ++ words)) x =
      subst (λ (l : List Mark). Stand true origin place (at own foreign d.entries) l x) (append_assoc (mark_of place own foreign c) (marks place own foreign cs) words) h in
      let next : Stand true origin place (at own foreign (command_gone peer stamp c d).entries) (marks place own foreign cs ++ words) (all_gone (mark_of stamp own foreign c) x) = one_gone peer stamp c d _ x first in
      subst (λ (y : End). Stand true origin place (at own foreign (commands_gone peer stamp (c ∷ cs) d).entries) words y) (sym (all_gone_append (mark_of stamp own foreign c) (marks stamp own foreign cs) x))
      (all_go peer stamp cs (command_gone peer stamp c d) words (all_gone (mark_of stamp own foreign c) x) next)

  -- what waits is what goes and what stays
  pub parted : (n : ℕ) (queue : List Command) → marks place own foreign queue ≡ marks place own foreign (take n queue) ++ marks place own foreign (drop n queue)
  parted n queue = ap (λ (cs : List Command). marks place own foreign cs) (sym (take-append-drop n queue)) ∙ marks_append place own foreign (take n queue) (drop n queue)

  commands_out : (peer : Host) (stamp n : ℕ) (d : DeskState) (x : End) → Stand true origin place (at own foreign d.entries) (marks place own foreign d.queue) x
      → Stand true origin place (at own foreign (commands_gone peer stamp (take n d.queue) d).entries) (marks place own foreign (drop n (commands_gone peer stamp (take n d.queue) d).queue)) (all_gone (marks stamp own foreign (take n d.queue)) x)
  commands_out peer stamp n d x h =
      let parts : Stand true origin place (at own foreign d.entries) (marks place own foreign (take n d.queue) ++ marks place own foreign (drop n d.queue)) x =
      subst (λ (l : List Mark). Stand true origin place (at own foreign d.entries) l x) (parted n _) h in
      subst (λ (cs : List Command). Stand true origin place (at own foreign (commands_gone peer stamp (take n d.queue) d).entries) (marks place own foreign (drop n cs)) (all_gone (marks stamp own foreign (take n d.queue)) x))
      (sym (all_gone_queue peer stamp (take n d.queue) d)) (all_go peer stamp (take n d.queue) d (marks place own foreign (drop n d.queue)) x parts)

  -- and all of it may go, where earlier requests went out below
  may_by : (ss : List Standing) (said words : List Mark) (x : End) (next : ℕ) → next ≤ place → Stand true origin place ss (said ++ words) x → MayAllGo said x next
  may_by [] [] words x next below h = tt
  may_by [] (m ∷ said) words x next below h = absurd (let r : m ∷ (said ++ words) ≡ [] = h.0 in cc)
  may_by (s ∷ []) said words x next below h = may_all origin place s said words x next (λ none mine. below) h
  may_by (s ∷ t ∷ ss) said words x next below h = absurd h

  commands_may : (n : ℕ) (entries : List Entry) (queue : List Command) (x : End) (next : ℕ) → next ≤ place → Stand true origin place (at own foreign entries) (marks place own foreign queue) x → MayAllGo (marks place own foreign (take n queue)) x next
  commands_may n entries queue x next below h =
      may_by _ _ _ x next below (subst (λ (l : List Mark). Stand true origin place (at own foreign entries) l x) (parted n queue) h)

-- ---- a parcel

pub parcel_may : (origin : ℕ → ℕ) (own foreign stamp : ℕ) (q : PairState) (x : Parcel) (e : End) (next : ℕ) → next ≤ stamp → HasEnd origin own foreign q e → MayAllGo (marks stamp own foreign (commands_of q x)) e next
parcel_may origin own foreign stamp q (parcel.Commands count) e next below h = commands_may origin own foreign stamp count _ _ e next below (h.ends stamp)
parcel_may origin own foreign stamp q x e next below h = tt

-- a pair that speaks is ready
not_idle : (q : PairState) (P : Type 0) → q.phase ≡ phase.Ready → is_ready q.phase ≡ false → P
not_idle q P ready idle = absurd (let r : true ≡ false = sym (ap is_ready ready) ∙ idle in cc)

pub parcel_goes : (origin : ℕ → ℕ) (own foreign stamp : ℕ) (peer : Host) (listening : List Listener) (q : PairState) (x : Parcel) (e : End) → MayGo q x → HasEnd origin own foreign q e
    → HasEnd origin own foreign (pair_after x q (parcel_gone peer stamp q.busy x (desk_of q listening))) (all_gone (marks stamp own foreign (commands_of q x)) e)
parcel_goes origin own foreign stamp peer listening q parcel.Reset e may h = record { ends = h.ends; idle = λ i. h.idle (ap is_ready may.wanted) }
parcel_goes origin own foreign stamp peer listening q parcel.Reply e may h = record { ends = h.ends; idle = h.idle }
parcel_goes origin own foreign stamp peer listening q (parcel.Commands count) e may h =
    record { ends = λ place. commands_out origin own foreign place peer stamp count (desk_of q listening) e (h.ends place); idle = λ i. not_idle q _ may.0.ready i }
parcel_goes origin own foreign stamp peer listening q (parcel.Bytes b size count) e may h = record {
  ends = λ place. stand_same origin own foreign place true (at own foreign q.entries) (at own foreign (changed_first (may_send_on q.busy (link_of b.link)) (bits_gone (size * count)) q.entries)) (marks place own foreign q.queue) (marks place own foreign q.queue) e
      (at_quiet own foreign _ _ _ (λ y. (refl, refl, refl))) refl (h.ends place);
  idle = h.idle;
}
