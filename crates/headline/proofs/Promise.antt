-- The promise of a book, put together from its parts, and what else is so of its world.
use Rattle.std.proofs.Common.{◌≡◌, List, [], ◌∷◌, ◌++◌, false, subst, sym, true}
use Rattle.interface.specs.Calls.{Seen}
use Rattle.interface.specs.Host.{Host}
use Rattle.interface.specs.Mailboxes.{IsRun}
use Rattle.interface.specs.declared.crossing.Crossing.{Crossing}
use Rattle.net_sim.specs.Book.{Kept}
use Rattle.net_sim.specs.Clean.{IsLawful}
use Rattle.net_sim.specs.World.{WorldState}
use Rattle.net_sim.proofs.lemmas.{booked_messages, world_fated}
use Rattle.promise.specs.declared.life.Life.{Life}
use Rattle.net_sim.proofs.lemmas.AllOurs.{happened}
use Rattle.net_sim.specs.Story.{Moment}
use Rattle.net_sim.specs.Timeline.{crossings_of}
use Rattle.mixed_worlds.specs.Laws.{Among}
use Rattle.headline.specs.Promise.{IsExact, KeepsPromise, WorldKeeps}
use Rattle.world_keeps_connections.proofs.lemmas.{world_joined}
use Rattle.world_keeps_lives.proofs.lemmas.{world_drained, world_handed, world_taken, world_told}
use Rattle.world_keeps_lives.proofs.lemmas.AllOurs.{lives_all}
use Rattle.world_keeps_pairing.proofs.lemmas.{book_lives, book_run, world_alone, world_partners}
use Rattle.world_keeps_streams.specs.Granted.{EachIsWithin}
use Rattle.world_keeps_streams.proofs.lemmas.{world_agrees, world_answered, world_arrived, world_arrives, world_between, world_calms, world_came, world_closes, world_comes, world_contacts, world_ended, world_firsts, world_formed, world_handed_over, world_over, world_rests, world_sent, world_settles, world_source, world_was_sent, world_within}

-- what is left of a run without its newest crossings is one
older_run : (hosts : List Host) (more log : List Crossing) → IsRun hosts (more ++ log) → IsRun hosts log
older_run hosts [] log run = run
older_run hosts (c ∷ more) log run = older_run hosts more log run.1

-- the book of a world is a run, even if memory ran out in an event of which something crossed
world_run : {C : Type 0} (seen : C → Seen) (w : WorldState C) → IsLawful seen (seen w.carrier).hosts w → IsRun (seen w.carrier).hosts w.kept.book.crossings
world_run seen w lawful = older_run (seen w.carrier).hosts lawful.booked.unbooked w.kept.book.crossings (subst (IsRun (seen w.carrier).hosts) lawful.booked.book lawful.run)

pub exact : {C : Type 0} (seen : C → Seen) (w : WorldState C) → IsLawful seen (seen w.carrier).hosts w → IsExact seen w
exact seen w lawful = record {
  lawful = lawful;
  arrives = world_arrives seen (seen w.carrier).hosts w lawful;
  comes = world_comes seen (seen w.carrier).hosts w lawful;
  answered = world_answered seen (seen w.carrier).hosts w lawful;
  closes = world_closes seen (seen w.carrier).hosts w lawful;
  came = world_came seen (seen w.carrier).hosts w lawful;
  rests = world_rests seen (seen w.carrier).hosts w lawful;
  agree = world_agrees seen (seen w.carrier).hosts w lawful;
  calm = world_calms seen (seen w.carrier).hosts w lawful;
  settled = world_settles seen (seen w.carrier).hosts w lawful;
  drained = world_drained seen (seen w.carrier).hosts w lawful;
  handed = world_handed_over seen (seen w.carrier).hosts w lawful;
  firsts = world_firsts seen (seen w.carrier).hosts w lawful;
}

-- what each life sent is within its grants, since that is so of any network, whoever is a stranger there
pub within_grants : Among → {C : Type 0} (seen : C → Seen) (w : WorldState C) → IsLawful seen (seen w.carrier).hosts w
    → EachIsWithin w.kept.book.crossings w.kept.book.lives
within_grants law seen w lawful =
    let hosts : List Host = (seen w.carrier).hosts in
    let moments : List Moment = lawful.whole.moments in
    let run : IsRun hosts (crossings_of moments) = book_run seen hosts w lawful in
    subst (λ (log : List Crossing). EachIsWithin log w.kept.book.lives) (sym lawful.whole.crossings)
    (subst (λ (lives : List Life). EachIsWithin (crossings_of moments) lives) (sym (book_lives seen hosts w lawful))
    (subst (λ (lives : List Life). EachIsWithin (crossings_of moments) lives) (lives_all hosts moments)
    (law.granted (λ h. false) hosts moments (record {
      addresses = lawful.addresses;
      strangers = λ h is. absurd (let no : false ≡ true = is in cc);
      run = run;
      happen = happened hosts moments lawful.whole.timeline;
    }))))

-- what the book of a lawful world keeps. That each life is within its grants is so of any network
pub keeps : Among → {C : Type 0} (seen : C → Seen) (w : WorldState C) → IsLawful seen (seen w.carrier).hosts w → KeepsPromise (seen w.carrier).hosts (seen w.carrier).log w.stopped w.kept
keeps among seen w lawful =
    let hosts : List Host = (seen w.carrier).hosts in
    record {
      booked = record {
        unbooked = lawful.booked.unbooked;
        parts = lawful.booked.book;
        all = lawful.booked.all;
        one = lawful.booked.one;
      };
      run = world_run seen w lawful;
      formed = world_formed seen hosts w lawful;
      told = world_told seen hosts w lawful;
      safe = record {
        messages = booked_messages seen w lawful.booked lawful.run;
        partners = world_partners seen hosts w lawful;
        streams = record {
          one = λ receiver x y there two mx my. world_alone seen hosts w lawful receiver x y two mx my;
          source = λ receiver there kind some. world_source hosts seen w lawful receiver there kind some;
          sent = world_handed seen hosts w lawful;
        };
        grants = record {
          taken = λ receiver there kind. world_taken seen hosts w lawful receiver there kind;
          sent = λ receiver sender here there match. world_sent hosts seen w lawful receiver sender here there match;
        };
      };
      joined = world_joined seen hosts w lawful;
      fated = world_fated seen hosts w lawful;
      whole = world_ended seen hosts w lawful;
      arrived = world_arrived seen hosts w lawful;
      over = world_over seen hosts w lawful;
      contacts = world_contacts seen hosts w lawful;
      within = world_within seen hosts w lawful;
      sent = world_was_sent seen hosts w lawful;
      between = world_between seen hosts w lawful;
      granted = within_grants among seen w lawful;
    }

-- a world keeps the promise by what a call says of the book that it gives
pub world_keeps : {C : Type 0} (seen : C → Seen) (w : WorldState C) (k : Kept) → k ≡ w.kept
    → KeepsPromise (seen w.carrier).hosts (seen w.carrier).log w.stopped k → IsExact seen w → WorldKeeps seen w
world_keeps seen w k is book exact =
    record { book = subst (KeepsPromise (seen w.carrier).hosts (seen w.carrier).log w.stopped) is book; exact = exact }
