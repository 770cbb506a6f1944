-- A book that keeps the promise is well-formed, so its audit is kept.
use Rattle.std.proofs.Common.{◌≡◌, ℕ, Bool, true, false, List, [], ◌∷◌, length, refl, ap, sym, arith, Option, Some, None}
use Rattle.std.specs.Prelude.{IsSome}
use Rattle.interface.specs.declared.crossing.Crossing.{Crossing}
use Rattle.interface.specs.Host.{Host}
use Rattle.net_sim.specs.Audit.{IsWellFormed, Says}
use Rattle.headline.specs.Promise.{KeepsPromise}
use Rattle.net_sim.specs.Book.{Kept}
use Rattle.net_sim.specs.declared.auditing.said.Audit.TheVariants as said
use Rattle.promise.specs.declared.life.Life.{Life}
use Rattle.promise.specs.Formed.{FormedBook, own_named, partner_named}
use Rattle.promise.specs.Safe.{AreHanded, SafeBook, before, control_flow, last_out, named}
use Rattle.world_keeps_lives.proofs.lemmas.{NamedAt, found_at, some_named}

as_long : (lives : List Life) (handed : List (List Bool)) → AreHanded lives handed → length lives ≡ length handed
as_long [] handed h = ap (λ (xs : List (List Bool)). length xs) (sym h)
as_long (x ∷ lives) [] h = absurd h
as_long (x ∷ lives) (b ∷ handed) h = let t : length lives ≡ length handed = as_long lives handed h.1 in omega arith

some_of : (x : Life) (a : Option ℕ) → IsSome (named x a) → IsSome a
some_of x None h = h
some_of x (Some p) h = refl

well_formed : (log : List Crossing) (lives : List Life) (handed : List (List Bool)) → FormedBook log lives → SafeBook log lives handed → IsWellFormed log lives handed
well_formed log lives handed f s = record {
  counts = as_long lives handed s.streams.sent;
  stamped = λ x c.
      (let own = some_named (own_named log x) (f x c).own in
      let partner = some_named (partner_named log x) (f x c).partner in
      let went : NamedAt false x.host x.peer x.socket x.foreign x.own_stamp own.0 log = found_at false x.host x.peer x.socket x.foreign x.own_stamp own.0 log own.1 in
      let came : NamedAt true x.peer x.host x.foreign x.socket x.partner_stamp partner.0 log = found_at true x.peer x.host x.foreign x.socket x.partner_stamp partner.0 log partner.1 in
      record {
        own = (went.message, went.flow, went.crossed);
        partner = (came.message, came.flow, came.crossed);
        asked = some_of x (last_out (control_flow x.peer x.host) (before x.partner_stamp log)) (s.partners.named x c);
      });
}

pub kept_promise : (hosts : List Host) (log : List Crossing) (stopped : Bool) (k : Kept)
    → KeepsPromise hosts log stopped k → Says said.Kept k.book.crossings k.book.lives k.handed
kept_promise hosts log stopped k p = (well_formed k.book.crossings k.book.lives k.handed p.formed p.safe, p.safe)
