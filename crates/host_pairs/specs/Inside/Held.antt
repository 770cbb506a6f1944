-- Where the ends are that have a mark, as a pair of hosts remembers it beside its ends.
use Rattle.std.specs.Prelude.{◌≡◌, ℕ, ◌≤◌, Bool, true, not, ◌==◌, ◌&&◌, List, [], ◌∷◌, length, drop, zero, suc}
use Rattle.std.specs.List.{list_any}
use Rattle.host_pairs.specs.Entries.{is_due, is_over}
use Rattle.host_pairs.specs.declared.entry.Entry.{Entry}
use Rattle.host_pairs.specs.Inside.Index.{AreKept}
use Rattle.host_pairs.specs.declared.index.Places.{Places}
use Rattle.host_pairs.specs.declared.held.Few.{Few}
use Rattle.host_pairs.specs.declared.held.Few.TheVariants as few

-- an end that waits to close, and one on which bits wait
abbrev pub waits : Entry → Bool
waits e = is_due e.closing

abbrev pub has_bits : Entry → Bool
has_bits e = not (length e.bits == 0)

-- no end has the mark, but perhaps the one at this place
abbrev pub none_but : (Entry → Bool) → ℕ → List Entry → Bool
none_but mark at [] = true
none_but mark zero (e ∷ es) = not (list_any mark es)
none_but mark (suc at) (e ∷ es) = not (mark e) && none_but mark at es

-- what is remembered is true of the ends
abbrev pub is_where : (Entry → Bool) → Few → List Entry → Bool
is_where mark few.Nowhere es = not (list_any mark es)
is_where mark (few.At at) es = none_but mark at es
is_where mark few.Anywhere es = true

-- all that is remembered, of the ends after those that have gone
pub record AreHeld (gone : ℕ) (known : Places) (due over bits : Few) (ends : List Entry) : Type 0 where
  pub within : gone ≤ length ends
  pub indexed : AreKept known (drop gone ends)
  pub closing : is_where waits due (drop gone ends) ≡ true
  pub ending : is_where is_over over (drop gone ends) ≡ true
  pub sending : is_where has_bits bits (drop gone ends) ≡ true
