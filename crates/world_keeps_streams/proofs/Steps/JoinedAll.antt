-- Two programs of a world are beside two streams of each link at all lawful moments.
use Rattle.world_keeps_streams.proofs.Common.{◌≡◌, ℕ, ◌==◌, false, List, [], ◌∷◌, refl, Host, opening_stream, numbered, numbered_tells, Joint, Steps, all_steps, mirror, opened, HaveAddresses, Moment, event_in, events_of, crossings_of, AreOurs, Network, Happened}
use Rattle.interface.specs.Mailboxes as mail
use Rattle.reset_law.specs.Stays as stay
use Rattle.world_keeps_streams.proofs.Steps.Goes as going
use Rattle.world_keeps_streams.proofs.Steps.Joined.{Joined, party, numbered_by_peer, turned_tells}
use Rattle.world_keeps_streams.proofs.Steps.Joining.{Goes, Mirrors}
use Rattle.world_keeps_streams.proofs.Calls.MayLaw.{law_calls}
use Rattle.world_keeps_streams.proofs.Requests.Untaken.{finds}
use Rattle.world_keeps_streams.proofs.Stays.Meets.{meets}

module _ (link : ℕ) (off : (link == 0) ≡ false) where
  steps : Steps numbered numbered_by_peer numbered_tells turned_tells link
  steps = all_steps numbered numbered_by_peer numbered_tells turned_tells (λ own foreign g. refl) link off

  back : Steps numbered_by_peer numbered turned_tells numbered_tells link
  back = all_steps numbered_by_peer numbered turned_tells numbered_tells (λ own foreign g. refl) link off

  mirrors : Mirrors link
  mirrors = record {
    there = λ x y a b j. mirror numbered numbered_by_peer numbered_tells turned_tells link x y a b j;
    back = λ x y a b j. mirror numbered_by_peer numbered turned_tells numbered_tells link x y a b j;
  }

  start : (a b : Host) → Joint numbered numbered_by_peer numbered_tells turned_tells link opening_stream opening_stream (party a b link [] []) (party b a link [] [])
  start a b = opened numbered numbered_by_peer numbered_tells turned_tells link (party a b link [] []) (party b a link [] []) refl refl refl refl (λ own foreign. refl) (λ own foreign. refl) refl refl

  module _ (hosts : Network) (addresses : HaveAddresses hosts.all) (a b : Host) (ours : AreOurs hosts a b) where
    -- one moment more, in which no stay begins
    pub goes : (x : Moment) (moments : List Moment) → mail.IsRun hosts.all (crossings_of (x ∷ moments)) → Happened hosts (x ∷ moments) → (old : Joined a b link moments) → stay.begins a b (event_in x) (events_of moments) ≡ false → Goes a b link x moments old
    goes x moments run time old none = going.next_goes link off steps back mirrors hosts a b ours addresses (law_calls hosts addresses) (finds link hosts addresses a b ours) x moments run time old none

    -- a lawful list of moments
    pub joined : (moments : List Moment) → mail.IsRun hosts.all (crossings_of moments) → Happened hosts moments → Joined a b link moments
    joined moments run time =
        going.joined link off steps back mirrors hosts a b ours addresses (law_calls hosts addresses) (finds link hosts addresses a b ours) (meets link off hosts addresses a b ours) (start a b) moments run time
