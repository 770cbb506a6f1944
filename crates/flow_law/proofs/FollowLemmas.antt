-- The interface: what the layer above cites.
use Rattle.flow_law.proofs.Common.{◌≡◌, Bool, List, [], ◌∷◌, ◌++◌, length, refl, ap, sym, ◌∙◌, subst, append_assoc, Flow, Crossing, View, Packet}
use Rattle.interface.specs.declared.crossing.Crossing.TheVariants as crossing
use Rattle.interface.specs.Host.{Host}
use Rattle.interface.specs.Mailboxes.{Mail, Passing, passings, passed, opening_mail, UpsAreHosts, IsRun, EachIsRun}
use Rattle.interface.proofs.lemmas.{each_is_run}
use Rattle.flow_law.specs.Moves.{Move, Needs, Makes, Either, Grown, view_moved, after_all, shown_by}
use Rattle.flow_law.specs.Follows.{Follows, Sound, AllSound, AllFollow, AllOpen, passed_over}
use Rattle.flow_law.proofs.AllMoves.{sound_less, sound_after_all}
use Rattle.flow_law.proofs.RunLemmas.{opening_sound}

-- one flow that makes a list of moves
follow_sound : {Piece : List Bool → Packet → Type 0} (ms : List Move) (start : Mail) (seen : List Passing) (old new : View) (before later : Packet → Type 0)
    → Follows Piece ms old new before later → Sound Piece start seen old before → Sound Piece start (shown_by ms old ++ seen) new later
follow_sound {Piece} ms start seen old new before later f h =
    let V : View → Type 0 = λ v. Sound Piece start (shown_by ms old ++ seen) v later in
    subst V (sym f.view)
    (sound_less start _ _ _ later f.packets (sound_after_all ms start seen old before f.needs h))

-- a flow that nothing happens to, packets aside
pub stays : {Piece : List Bool → Packet → Type 0} (old new : View) (before later : Packet → Type 0) → new ≡ old → ((x : Packet) → later x → before x) → Follows Piece [] old new before later
stays old new before later same less = record { needs = tt; view = same; packets = less }

-- a flow that makes one move
pub makes_one : {Piece : List Bool → Packet → Type 0} (m : Move) (old new : View) (before later : Packet → Type 0) → Needs Piece m old before → new ≡ view_moved m old
    → ((x : Packet) → later x → Either before (Makes Piece m old) x) → Follows Piece (m ∷ []) old new before later
makes_one m old new before later needs same from = record { needs = (needs, tt); view = same; packets = from }

-- what a flow sees of two lists of crossings, one upon the other
pub passed_over-append : (f : Flow) (entries others log : List Crossing) → passed_over f (entries ++ others) log ≡ passed_over f entries (others ++ log) ++ passed_over f others log
passed_over-append f [] others log = refl
passed_over-append f (c ∷ entries) others log =
    ap (λ (ps : List Passing). passings (length ((entries ++ others) ++ log)) f c ++ ps) (passed_over-append f entries others log)
    ∙ ap (λ (cs : List Crossing). passings (length cs) f c ++ (passed_over f entries (others ++ log) ++ passed_over f others log)) (append_assoc entries others log)
    ∙ sym (append_assoc (passings (length (entries ++ (others ++ log))) f c) (passed_over f entries (others ++ log)) (passed_over f others log))

passed-append : (f : Flow) (entries log : List Crossing) → passed f (entries ++ log) ≡ passed_over f entries log ++ passed f log
passed-append f [] log = refl
passed-append f (c ∷ entries) log =
    ap (λ (ps : List Passing). passings (length (entries ++ log)) f c ++ ps) (passed-append f entries log)
    ∙ sym (append_assoc (passings (length (entries ++ log)) f c) (passed_over f entries log) (passed f log))

ups-append : (hosts : List Host) (entries log : List Crossing) → UpsAreHosts hosts entries → UpsAreHosts hosts log → UpsAreHosts hosts (entries ++ log)
ups-append hosts [] log here below = below
ups-append hosts (crossing.Up h ∷ entries) log here below = (here.0, ups-append hosts entries log here.1 below)
ups-append hosts (crossing.Out m ∷ entries) log here below = ups-append hosts entries log here below
ups-append hosts (crossing.In m ∷ entries) log here below = ups-append hosts entries log here below
ups-append hosts (crossing.Answer k g ∷ entries) log here below = ups-append hosts entries log here below
ups-append hosts (crossing.Down h ∷ entries) log here below = ups-append hosts entries log here below

-- a step in which each flow makes a list of moves keeps each flow sound
pub all_follow : {Piece : List Bool → Packet → Type 0} (hosts : List Host) (entries log : List Crossing) (moves : Flow → List Move) (old new : Flow → View) (before later : Flow → Packet → Type 0)
    → AllFollow Piece hosts entries log moves old new before later → AllSound Piece hosts log old before → AllSound Piece hosts (entries ++ log) new later
all_follow {Piece} hosts entries log moves old new before later a h = record {
  flows = λ f.
      (let S : List Passing → Type 0 = λ ps. Sound Piece (opening_mail hosts f) ps (new f) (later f) in
      let same : shown_by (moves f) (old f) ++ passed f log ≡ passed f _ =
      ap (λ (ps : List Passing). ps ++ passed f log) (sym (a.shown f)) ∙ sym (passed-append f entries log) in
      subst S same (follow_sound _ _ _ (old f) (new f) _ _ (a.follows f) (h.flows f)));
  ups = ups-append hosts entries log a.ups h.ups;
}

-- the network before anything happened is sound
pub all_open : {Piece : List Bool → Packet → Type 0} (hosts : List Host) (view : Flow → View) (alive : Flow → Packet → Type 0) → AllOpen hosts view
    → ((f : Flow) (x : Packet) → alive f x → ⊥) → AllSound Piece hosts [] view alive
all_open {Piece} hosts view alive o nothing = record {
  flows = λ f. (let S : Mail → Type 0 = λ m. Sound Piece m [] (view f) (alive f) in subst S (o.mail f) (opening_sound _ _ (o.opening f) (nothing f)));
  ups = tt;
}

-- the log of a sound network is, for each flow, a run
pub sound_log : {Piece : List Bool → Packet → Type 0} (hosts : List Host) (log : List Crossing) (view : Flow → View) (alive : Flow → Packet → Type 0) → AllSound Piece hosts log view alive
    → EachIsRun hosts log
sound_log hosts log view alive h = record { flows = λ f. (h.flows f).run; ups = h.ups }

-- so it is a run of the mailboxes
pub sound_run : {Piece : List Bool → Packet → Type 0} (hosts : List Host) (log : List Crossing) (view : Flow → View) (alive : Flow → Packet → Type 0) → AllSound Piece hosts log view alive
    → IsRun hosts log
sound_run hosts log view alive h = each_is_run hosts log (sound_log hosts log view alive h)
