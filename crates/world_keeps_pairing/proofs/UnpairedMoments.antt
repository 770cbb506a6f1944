-- All moments: two sockets that both receive or both send have no end and no life.
use Rattle.world_keeps_pairing.proofs.Common.{false, Bool, ◌≡◌, ℕ, ◌≤◌, List, [], ◌∷◌, None, sym, subst, arith, Host, HostMessage, IsRanged, refusal, link_for, text_for, opening_has, pair, Moment, Crossed, Asked, IsNext, IsStory, events_of, places, program, crossings_of, story_agrees, TakesFreeAt, AreOurs, Network}
use Rattle.interface.proofs.lemmas.{same_host-true, waits_with}
use Rattle.interface.specs.Mailboxes as mail
use Rattle.interface.specs.declared.crossing.Crossing.TheVariants as crossing
use Rattle.reset_law.specs.Runs.{IsRun}
use Rattle.world_keeps_pairing.proofs.Served.{AreServed}
use Rattle.world_keeps_pairing.proofs.LinkRun.{AllTied, all_tied, takes}
use Rattle.world_keeps_pairing.proofs.Origins.{served_below}
use Rattle.world_keeps_pairing.proofs.Programs.{out_may, read_marks}
use Rattle.world_keeps_pairing.proofs.Tied.{AreOrigins, programs_ranged}
use Rattle.world_keeps_pairing.proofs.Unpaired.{AllSilent, IsSilent, IsUnpaired, unpaired_turned, unsaid, waiting_silent}
use Rattle.world_keeps_pairing.proofs.UnpairedRun.{IsBare, answer_bare, asked_bare, down_bare, in_bare, out_bare, up_bare}

pub record AllBare (hosts : Network) (origin : Host → Host → ℕ → ℕ) (moments : List Moment) : Type 0 where
  pub bare : (a b : Host) → AreOurs hosts a b → (own foreign : ℕ) → IsUnpaired own foreign → IsBare (origin a b) own foreign hosts a b moments
  pub silent : AllSilent hosts (crossings_of moments)

module _ (hosts : Network) (origin : Host → Host → ℕ → ℕ) (moments : List Moment) (ranged : (h : Host) → hosts.strange h ≡ false → IsRanged (program h moments)) (old : AllBare hosts origin moments) where
  -- a message that goes out says nothing of such sockets, since its host has no end of theirs
  out_silent : (m : HostMessage) → AreOurs hosts m.flow.source m.flow.destination → IsStory hosts (Crossed (crossing.Out m) ∷ moments) → IsSilent m.flow.link.0 m.text
  out_silent m ours story = λ own foreign place u.
      let n : IsNext (program m.flow.source moments) m = story.0 ours.0 in
      let them : AreOurs hosts m.flow.source n.peer.host = (ours.0, subst (λ (y : HostMessage). hosts.strange y.flow.destination ≡ false) n.message ours.1) in
      let zero : 0 ≤ place = omega arith in
      subst (λ (y : HostMessage). read_marks place own foreign y.flow.link.0 y.text ≡ []) (sym n.message)
      (unsaid own foreign place _ _ 0 u
      (out_may (origin m.flow.source n.peer.host) own foreign _ place n.peer _ _ _ 0 n.order n.next (ranged m.flow.source ours.0)
      (story_agrees hosts moments _ _ them story.1) zero (old.bare m.flow.source n.peer.host them own foreign u).0))

  silent_turn : (x : Moment) → IsStory hosts (x ∷ moments) → AllSilent hosts (crossings_of (x ∷ moments))
  silent_turn (Crossed (crossing.Out m)) story = ((λ ours. out_silent m ours story), old.silent)
  silent_turn (Crossed c) story = old.silent
  silent_turn (Asked g r) story = old.silent

  -- nor does one that is taken, since it went out
  in_silent : (m : HostMessage) → AreOurs hosts m.flow.source m.flow.destination → mail.IsRun hosts.all (crossings_of (Crossed (crossing.In m) ∷ moments)) → IsSilent m.flow.link.0 m.text
  in_silent m ours run =
      let w : (place : ℕ) × (mail.box_of m.flow (crossings_of moments) ≡ mail.Waiting place m.text) = waits_with _ m.text run.0.1 in
      waiting_silent hosts m.flow ours w.0 m.text (crossings_of moments) old.silent w.1

  bare_turn : (x : Moment) → IsStory hosts (x ∷ moments) → mail.IsRun hosts.all (crossings_of (x ∷ moments)) → AreServed hosts (x ∷ moments) → TakesFreeAt hosts x moments → (a b : Host) → AreOurs hosts a b → (own foreign : ℕ) → IsUnpaired own foreign → IsBare (origin a b) own foreign hosts a b (x ∷ moments)
  bare_turn (Crossed (crossing.Out m)) story run served free a b ours own foreign u =
      out_bare (origin a b) own foreign hosts a b ours m moments story (ranged a ours.0)
      (λ from to. out_silent m (subst (λ (y : Host). hosts.strange y ≡ false) (same_host-true a _ from) ours.0, subst (λ (y : Host). hosts.strange y ≡ false) (same_host-true b _ to) ours.1) story own foreign _ u) (old.bare a b ours own foreign u)
  bare_turn (Crossed (crossing.In m)) story run served free a b ours own foreign u =
      in_bare (origin a b) own foreign hosts a b ours m moments story free (λ our. in_silent m our run foreign own (origin a b (places moments)) (unpaired_turned own foreign u)) (old.bare a b ours own foreign u)
  bare_turn (Crossed (crossing.Answer kind f)) story run served free a b ours own foreign u = answer_bare (origin a b) own foreign hosts a b ours kind f moments (old.bare a b ours own foreign u)
  bare_turn (Crossed (crossing.Down g)) story run served free a b ours own foreign u = down_bare (origin a b) own foreign hosts a b ours g moments (old.bare a b ours own foreign u)
  bare_turn (Crossed (crossing.Up g)) story run served free a b ours own foreign u = up_bare (origin a b) own foreign hosts a b ours g moments (old.bare a b ours own foreign u)
  bare_turn (Asked g r) story run served free a b ours own foreign u =
      asked_bare (origin a b) own foreign hosts a b ours g r moments (λ e. subst (λ (y : Host). refusal (program y moments) r ≡ None) (sym (same_host-true a g e)) (served.0 (subst (λ (y : Host). hosts.strange y ≡ false) (same_host-true a g e) ours.0)).0) (old.bare a b ours own foreign u)

pub mail_below : (hosts : List Host) (x : Moment) (moments : List Moment) → mail.IsRun hosts (crossings_of (x ∷ moments)) → mail.IsRun hosts (crossings_of moments)
mail_below hosts (Crossed c) moments run = run.1
mail_below hosts (Asked g r) moments run = run

pub all_bare : (hosts : Network) (origin : Host → Host → ℕ → ℕ) (moments : List Moment) → AreOrigins origin moments → IsStory hosts moments → IsRun hosts (events_of moments) → mail.IsRun hosts.all (crossings_of moments) → AreServed hosts moments → AllBare hosts origin moments
all_bare hosts origin [] from story run mails served = record { bare = λ a b ours own foreign u. (opening_has (origin a b) own foreign a b, tt); silent = tt }
all_bare hosts origin (x ∷ moments) from story run mails served =
    let below : AreServed hosts moments = served_below hosts x moments served in
    let old : AllBare hosts origin moments = all_bare hosts origin moments from.1 story.1 run.2 (mail_below _ x moments mails) below in
    let t : AllTied hosts origin moments = all_tied hosts origin moments from.1 story.1 run.2 below in
    let ranged : (h : Host) → hosts.strange h ≡ false → IsRanged (program h moments) = programs_ranged hosts moments below in
    let free : TakesFreeAt hosts x moments = takes hosts origin x moments story run ranged from.0 t in
    record {
      bare = bare_turn hosts origin moments ranged old x story mails served free;
      silent = silent_turn hosts origin moments ranged old x story;
    }
