-- What requests and CLS are found by. No public clause cites this file.
use Rattle.std.specs.Prelude.{ℕ, refl, ◌==◌, ◌&&◌, Bool}
use Rattle.std.specs.Coded.{Coded, code_by, coded×, coded_ℕ, coded_bool}
use Rattle.std.specs.declared.cmp.Ordering.{Ordering}
use Rattle.std.specs.Ordering.{bool_cmp, nat_cmp, ordering_then}
use Rattle.interface.specs.Codes.{coded_host}
use Rattle.interface.specs.Host.{Host, host_cmp, same_host}
use Rattle.book_judge.specs.Inside.{same_bit}
use Rattle.book_judge.specs.declared.fates.key_map.Key.{Key}

abbrev pub key_cmp : Key → Key → Ordering
key_cmp a b =
    ordering_then (nat_cmp a.place b.place)
    (ordering_then (host_cmp a.host b.host) (ordering_then (host_cmp a.peer b.peer)
    (ordering_then (bool_cmp a.comes b.comes) (ordering_then (nat_cmp a.own b.own) (nat_cmp a.foreign b.foreign)))))

-- a key as a list of numbers
abbrev pub coded_key : Coded Key
coded_key = code_by (ℕ × (Host × (Host × (Bool × (ℕ × ℕ)))))
    (coded× coded_ℕ (coded× coded_host (coded× coded_host (coded× coded_bool (coded× coded_ℕ coded_ℕ)))))
    (λ k. (k.place, (k.host, (k.peer, (k.comes, (k.own, k.foreign))))))
    (λ p. record {
      place = p.0;
      host = p.1.0;
      peer = p.1.1.0;
      comes = p.1.1.1.0;
      own = p.1.1.1.1.0;
      foreign = p.1.1.1.1.1;
    }) (λ _. refl)

abbrev pub same_key : Key → Key → Bool
same_key a b =
    same_bit a.comes b.comes && b.place == a.place && same_host a.host b.host && same_host a.peer b.peer && b.own ==
    a.own
    && b.foreign == a.foreign
