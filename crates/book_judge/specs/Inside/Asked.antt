-- The tests by which the requests of lives are judged. No public clause cites this file.
use Rattle.std.specs.Prelude.{◌≡◌, ℕ, ◌<◌, ◌+◌, ◌*◌, ◌==◌, ◌&&◌, Bool, false, not, List, length, reverse, take, slice_get, Option, Some, None, Result, Ok, Err}
use Rattle.std.specs.FinMap as map
use Rattle.std.specs.Global.{Vec}
use Rattle.interface.specs.Flow.{flow_cmp, same_flow}
use Rattle.interface.specs.declared.address.Flow.{Flow}
use Rattle.interface.specs.declared.crossing.Crossing.{Crossing}
use Rattle.interface.specs.declared.crossing.Crossing.TheVariants as crossing
use Rattle.interface.specs.declared.message.HostMessage.{HostMessage}
use Rattle.net_sim.specs.Findings.{AreStamped, EndsAt}
use Rattle.net_sim.specs.declared.auditing.findings.Finding.{Finding}
use Rattle.net_sim.specs.declared.auditing.findings.Finding.TheVariants as finding
use Rattle.promise.specs.Safe.{Name, last_out, partner_request}
use Rattle.promise.specs.declared.life.Life.{Life}

-- ---- names

abbrev pub same_name : Name → Name → Bool
same_name a b = a.place == b.place && a.own == b.own && a.foreign == b.foreign

-- a number for each request: one request has one
abbrev pub key : Name → ℕ
key a = a.place * 18446744073709551616 + a.own * 4294967296 + a.foreign

-- ---- where messages went out

abbrev pub out_at : map.FinMap flow_cmp ℕ → Crossing → Option ℕ
out_at last (crossing.Out m) = None
out_at last (crossing.In m) = map.get last m.flow
out_at last (crossing.Answer kind f) = None
out_at last (crossing.Down h) = None
out_at last (crossing.Up h) = None

abbrev pub noted : ℕ → Crossing → map.FinMap flow_cmp ℕ → map.FinMap flow_cmp ℕ
noted place (crossing.Out m) last = map.insert last m.flow place
noted place (crossing.In m) last = last
noted place (crossing.Answer kind f) last = last
noted place (crossing.Down h) last = last
noted place (crossing.Up h) last = last

-- of the first messages that came in: where the last message of the flow went out before. The log is the oldest first
abbrev pub AreOuts : ℕ → List (Option ℕ) → List Crossing → Type 0
AreOuts n outs log =
    (length outs ≡ n)
    × ((p : ℕ) (m : HostMessage) → p < n → slice_get log p ≡ Some (crossing.In m)
    → slice_get outs p ≡ Some (last_out m.flow (reverse (take p log))))

abbrev pub passes : Bool → Flow → Option Crossing → Bool
passes comes f None = false
passes comes f (Some (crossing.Out m)) = not comes && same_flow f m.flow
passes comes f (Some (crossing.In m)) = comes && same_flow f m.flow
passes comes f (Some (crossing.Answer kind g)) = false
passes comes f (Some (crossing.Down h)) = false
passes comes f (Some (crossing.Up h)) = false

abbrev pub found_at : Option (Option ℕ) → Option ℕ
found_at None = None
found_at (Some found) = found

-- the partner's requests of the first lives; the log is the newest first
pub record AreNamed (n : ℕ) (names : List Name) (lives : List Life) (log : List Crossing) : Type 0 where
  pub counts : length names ≡ n
  pub stamped : AreStamped log (take n lives)
  pub named : (i : ℕ) (x : Life) → i < n → slice_get lives i ≡ Some x
      → (name : Name) × (slice_get names i ≡ Some name) × (partner_request log x ≡ Some name)

-- the partners' requests of all lives; or the place of the first life whose stamps don't name requests
abbrev pub Names : Result (Vec Name) ℕ → List Life → List Crossing → Type 0
Names (Ok names) lives log = AreNamed (length lives) names.items lives log
Names (Err place) lives log = EndsAt (λ n. AreStamped log (take n lives)) place

-- where it shows that not all stamps name requests
abbrev pub unstamped : Result (Vec Name) ℕ → Option Finding
unstamped (Ok names) = None
unstamped (Err place) = Some (finding.Life place)
