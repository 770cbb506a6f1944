-- The laws of src/ that are longer than a line: each is a record, and its fields are the clauses.
use Rattle.std.specs.Prelude.{None, Some, [], take, true, ◌∷◌, ◌≡◌}
use Rattle.topology.specs.Topology.{hosts_from, sites_of}
use Rattle.topology.specs.declared.network.CarrierKind.{CarrierKind}

-- IMPs 1 and 3 with one host and two: there is no site 2, and host 1 of IMP 3 comes last.
pub record WorkedSites : Type 0 where
  pub sites :
      (carrier : CarrierKind) →
      take 5
      (sites_of
      (record {
        carrier = carrier;
        raw = true;
        imps = record { imp = 1; hosts = 1 } ∷ record { imp = 3; hosts = 2 } ∷
            [];
        lines = [];
        strangers = [];
      }))
      ≡ None ∷ Some 1 ∷ None ∷ Some 2 ∷ None ∷ []
  pub hosts :
      hosts_from 0 (None ∷ Some 1 ∷ None ∷ Some 2 ∷ [])
      ≡ record { imp = 1; host = 0 } ∷ record { imp = 3; host = 0 } ∷ record { imp = 3; host = 1 } ∷ []
