-- A finished initial connection among hosts with programs pairs the right four sockets.
use Rattle.mixed_worlds.proofs.Common.{◌≡◌, Bool, false, true, List, subst, sym, Contains, Host, Crossing, Moment, IsMixed, Life, Match, receives, sends, JoinedBook, IsBacked, AreOurs, Network, in_book}
use Rattle.mixed_worlds.specs.Book.{lives_among, mixed_kept, book_among}
use Rattle.std.specs.Prelude.{All}
use Rattle.host_services.specs.declared.report.Reported.{Reported}
use Rattle.world_keeps_lives.proofs.lemmas.{kept_log}
use Rattle.world_keeps_connections.proofs.lemmas as connections
use Rattle.world_keeps_connections.proofs.lemmas.{live_match}
use Rattle.world_keeps_connections.specs.Users.{AreOpposite}

-- ---- the four ends

module _ (strange : Host → Bool) (hosts : List Host) (moments : List Moment)
    (mixed : IsMixed strange hosts moments) where
  abbrev all : Network
  all = record { all = hosts; strange = strange }

  abbrev lives : List Life
  lives = (mixed_kept strange moments).book.lives

  matches : (x y : Life) → Contains (lives_among strange lives) x → Contains (lives_among strange lives) y
      → x.ended ≡ false → y.ended ≡ false → AreOpposite x y → receives x ≡ true → sends y ≡ true
      → Match (mixed_kept strange moments).book.crossings x y
  matches x y here there on also o receiving sending =
      let i : Contains lives x × AreOurs all x.host x.peer = in_book all lives x here in
      let j : Contains lives y × AreOurs all y.host y.peer = in_book all lives y there in
      subst (λ (log : List Crossing). Match log x y) (sym (kept_log strange moments)) (live_match all moments mixed.addresses mixed.run mixed.happen x y i.1 i.0 j.0 on also o receiving sending)

  pub joins : (reports : List Reported) → All (IsBacked (mixed_kept strange moments).book.notices) reports
      → JoinedBook (book_among strange moments reports)
  joins reports backed = connections.joins (book_among strange moments reports) backed matches
