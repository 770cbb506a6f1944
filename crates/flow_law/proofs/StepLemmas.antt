-- Steps that concern one flow, or one host.
use Rattle.flow_law.proofs.Common.{◌≡◌, Bool, true, false, List, [], ◌∷◌, ◌++◌, length, refl, sym, subst, if◌then◌else◌, Flow, Answer, Crossing, View, Packet}
use Rattle.interface.specs.declared.crossing.Crossing.TheVariants as crossing
use Rattle.interface.specs.declared.message.HostMessage.{HostMessage}
use Rattle.interface.specs.Host.{Host, same_host}
use Rattle.interface.specs.Mailboxes.{Passing, first_if, same_flow, UpsAreHosts}
use Rattle.interface.proofs.lemmas.{same_flow-refl, same_flow-true}
use Rattle.flow_law.specs.Moves.{Move, shown_by}
use Rattle.flow_law.specs.Follows.{Follows, AllSound, AllFollow, OneFollows, passed_over}
use Rattle.flow_law.specs.Local.{stopped_host, started_host}
use Rattle.flow_law.proofs.FollowLemmas.{stays, all_follow}

-- the moves of the flow that the step concerns
abbrev moves_of : Flow → List Move → Flow → List Move
moves_of g moves f = if same_flow f g then moves else []

-- what holds of the chosen moves
chosen : (P : List Move → Type 0) (test : Bool) (moves : List Move) → (test ≡ true → P moves) → (test ≡ false → P []) → P (if test then moves else [])
chosen P true moves here there = here refl
chosen P false moves here there = there refl

one_all : {Piece : List Bool → Packet → Type 0} (hosts : List Host) (entries log : List Crossing) (g : Flow) (moves : List Move) (old new : Flow → View) (before later : Flow → Packet → Type 0)
    → UpsAreHosts hosts entries → OneFollows Piece entries log g moves old new before later → AllFollow Piece hosts entries log (moves_of g moves) old new before later
one_all {Piece} hosts entries log g moves old new before later ups o = record {
  follows = λ f.
      chosen (λ ms. Follows Piece ms (old f) (new f) (before f) (later f)) (same_flow f g) moves
      (λ same. (let F : Flow → Type 0 = λ k. Follows Piece moves (old k) (new k) (before k) (later k) in subst F (sym (same_flow-true f g same)) o.here))
      (λ other. stays (old f) (new f) (before f) (later f) (o.view f other) (o.packets f other));
  shown = λ f.
      chosen (λ ms. passed_over f entries log ≡ shown_by ms (old f)) (same_flow f g) moves
      (λ same. (let F : Flow → Type 0 = λ k. passed_over k entries log ≡ shown_by moves (old k) in subst F (sym (same_flow-true f g same)) o.shown))
      (λ other. o.unseen f other);
  ups = ups;
}

-- a step that concerns one flow keeps each flow sound
pub one_follows : {Piece : List Bool → Packet → Type 0} (hosts : List Host) (entries log : List Crossing) (g : Flow) (moves : List Move) (old new : Flow → View) (before later : Flow → Packet → Type 0)
    → UpsAreHosts hosts entries → OneFollows Piece entries log g moves old new before later → AllSound Piece hosts log old before → AllSound Piece hosts (entries ++ log) new later
one_follows hosts entries log g moves old new before later ups o h =
    all_follow hosts entries log _ old new before later (one_all hosts entries log g moves old new before later ups o) h

-- a step that is silent for every flow: nothing of any flow changes, and nothing new is alive
pub silent_follows : {Piece : List Bool → Packet → Type 0} (hosts : List Host) (log : List Crossing) (old new : Flow → View) (before later : Flow → Packet → Type 0)
    → ((f : Flow) → new f ≡ old f) → ((f : Flow) (x : Packet) → later f x → before f x) → AllSound Piece hosts log old before → AllSound Piece hosts log new later
silent_follows hosts log old new before later same less h =
    all_follow hosts [] log _ old new before later (record {
      follows = λ f. stays (old f) (new f) (before f) (later f) (same f) (less f);
      shown = λ f. refl;
      ups = tt;
    }) h

-- ---- what flows see of a crossing of one flow

only_if : (test : Bool) (p : Passing) → test ≡ true → first_if test p [] ++ [] ≡ p ∷ []
only_if true p is = refl
only_if false p is = absurd (cc)

not_if : (test : Bool) (p : Passing) → test ≡ false → first_if test p [] ++ [] ≡ []
not_if true p is = absurd (cc)
not_if false p is = refl

pub out_here : (m : HostMessage) (log : List Crossing) → passed_over m.flow (crossing.Out m ∷ []) log ≡ Passing.Put (length log) m.text ∷ []
out_here m log = only_if _ _ (same_flow-refl m.flow)

pub out_elsewhere : (f : Flow) (m : HostMessage) (log : List Crossing) → same_flow f m.flow ≡ false → passed_over f (crossing.Out m ∷ []) log ≡ []
out_elsewhere f m log other = not_if _ _ other

pub in_here : (m : HostMessage) (log : List Crossing) → passed_over m.flow (crossing.In m ∷ []) log ≡ Passing.Fetched m.text ∷ []
in_here m log = only_if _ _ (same_flow-refl m.flow)

pub in_elsewhere : (f : Flow) (m : HostMessage) (log : List Crossing) → same_flow f m.flow ≡ false → passed_over f (crossing.In m ∷ []) log ≡ []
in_elsewhere f m log other = not_if _ _ other

pub answer_here : (kind : Answer) (g : Flow) (log : List Crossing) → passed_over g (crossing.Answer kind g ∷ []) log ≡ Passing.Told kind ∷ []
answer_here kind g log = only_if _ _ (same_flow-refl g)

pub answer_elsewhere : (kind : Answer) (f g : Flow) (log : List Crossing) → same_flow f g ≡ false → passed_over f (crossing.Answer kind g ∷ []) log ≡ []
answer_elsewhere kind f g log other = not_if _ _ other

-- ---- what flows see of a host that goes down or comes up

down_by : (source destination : Bool) (v : View)
    → first_if destination Passing.DestinationDown (first_if source Passing.SourceDown []) ++ [] ≡ shown_by (stopped_host source destination) v
down_by true true v = refl
down_by true false v = refl
down_by false true v = refl
down_by false false v = refl

pub down_shown : (f : Flow) (h : Host) (log : List Crossing) (v : View)
    → passed_over f (crossing.Down h ∷ []) log ≡ shown_by (stopped_host (same_host f.source h) (same_host f.destination h)) v
down_shown f h log v = down_by _ _ v

up_by : (source destination : Bool) (v : View)
    → first_if destination Passing.DestinationUp (first_if source Passing.SourceUp []) ++ [] ≡ shown_by (started_host source destination) v
up_by true true v = refl
up_by true false v = refl
up_by false true v = refl
up_by false false v = refl

pub up_shown : (f : Flow) (h : Host) (log : List Crossing) (v : View)
    → passed_over f (crossing.Up h ∷ []) log ≡ shown_by (started_host (same_host f.source h) (same_host f.destination h)) v
up_shown f h log v = up_by _ _ v
