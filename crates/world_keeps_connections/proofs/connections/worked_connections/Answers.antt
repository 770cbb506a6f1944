use Rattle.world_keeps_connections.proofs.Common.{◌≡◌, true, false, List, [], ◌∷◌, Some, None, refl, sym, ◌∙◌, arith, IsBacked, own_request}
use Rattle.std.proofs.lemmas.List.Elements.{All-cons, All-nil}
use Rattle.bit_messages.specs.Octets.{octets_of}
use Rattle.host_services.specs.declared.report.Report.TheVariants as report
use Rattle.host_services.specs.declared.report.Reported.{Reported}
use Rattle.icp.specs.declared.outcome.Outcome.TheVariants as outcome
use Rattle.promise.specs.declared.book.Told.{Told}
use Rattle.sockets.specs.Worked.{first, second}
use Rattle.world_keeps_connections.specs.WorkedConnections.{joined_kept, older, older_at_server, server_receives, server_sends, user_receives, user_sends}
use Rattle.world_keeps_connections.proofs.connections.worked_connections.Goals as goal

pub returns-clause-over : goal.returns-clause-over
returns-clause-over c = λ book a b own other x e k. let both : true ≡ false = sym e ∙ k.live in absurd (cc)

pub returns-clause-socket : goal.returns-clause-socket
returns-clause-socket c = λ book a b other x e k. let both : 101 ≡ 100 = sym e ∙ k.socket in omega (arith, both)

pub returns-clause-foreign : goal.returns-clause-foreign
returns-clause-foreign c = λ book a b own x e k. let both : 18 ≡ 19 = sym e ∙ k.foreign in omega (arith, both)

pub returns-clause-joined : goal.returns-clause-joined
returns-clause-joined c = record {
  served = record { entry = record { host = first; notices = 5; report = report.Server (outcome.Done 100 101) }; there = (0, omega arith, refl); by = refl; report = refl };
  asked = record { entry = record { host = second; notices = 7; report = report.User (outcome.Done 18 19) }; there = (1, omega arith, refl); by = refl; report = refl };
  server_hears = record { there = (2, omega arith, refl); host = refl; socket = refl; peer = refl; foreign = refl; live = refl };
  server_speaks = record { there = (3, omega arith, refl); host = refl; socket = refl; peer = refl; foreign = refl; live = refl };
  user_hears = record { there = (4, omega arith, refl); host = refl; socket = refl; peer = refl; foreign = refl; live = refl };
  user_speaks = record { there = (5, omega arith, refl); host = refl; socket = refl; peer = refl; foreign = refl; live = refl };
}

-- the two reports
server_done : Reported
server_done = record { host = first; notices = 5; report = report.Server (outcome.Done 100 101) }

user_done : Reported
user_done = record { host = second; notices = 7; report = report.User (outcome.Done 18 19) }

pub returns-clause-reported : goal.returns-clause-reported
unfolding octets_of server_done user_done
returns-clause-reported c =
    let told : List Told = joined_kept.book.notices in
    All-cons (IsBacked told) server_done (user_done ∷ []) (record {
      within = omega arith;
      so = record {
        began = record { listen = 7; base = 100; can = refl; earlier = []; since = _; parts = refl };
        receives = refl;
        sends = refl;
        served = record { user = record { peer = second; socket = 16 }; asked = refl; receiving = refl; sending = refl };
      };
    }) (All-cons (IsBacked told) user_done [] (record {
      within = omega arith;
      so = record {
        began = record { peer = first; listen = 7; own = 16; can = refl; earlier = []; since = _; parts = refl };
        receives = refl;
        sends = refl;
        connected = record { base = 100; long = omega arith; said = refl; even = refl; receiving = refl; sending = refl };
      };
    }) (All-nil (IsBacked told)))

pub returns-clause-pairs : goal.returns-clause-pairs
returns-clause-pairs c = (
  record { receiving = refl; sending = refl; peers = (refl, refl); sockets = (refl, refl); asked = refl; answered = refl },
  record { receiving = refl; sending = refl; peers = (refl, refl); sockets = (refl, refl); asked = refl; answered = refl },
)

pub returns-clause-others : goal.returns-clause-others
returns-clause-others c =
    (λ m. let both : 101 ≡ 19 = m.sockets.0 in omega (arith, both), λ m. let both : 19 ≡ 101 = m.sockets.0 in omega (arith, both))

pub returns-clause-older : goal.returns-clause-older
returns-clause-older c = λ m. let both : None ≡ Some (own_request server_sends) = m.asked in absurd (cc)

pub returns-clause-unjoined : goal.returns-clause-unjoined
returns-clause-unjoined c = λ j. let both : None ≡ Some (own_request server_sends) = (j first second 100 16 server_receives server_sends older user_sends (record {
  served = record { entry = record { host = first; notices = 5; report = report.Server (outcome.Done 100 101) }; there = (0, omega arith, refl); by = refl; report = refl };
  asked = record { entry = record { host = second; notices = 7; report = report.User (outcome.Done 18 19) }; there = (1, omega arith, refl); by = refl; report = refl };
  server_hears = record { there = (0, omega arith, refl); host = refl; socket = refl; peer = refl; foreign = refl; live = refl };
  server_speaks = record { there = (1, omega arith, refl); host = refl; socket = refl; peer = refl; foreign = refl; live = refl };
  user_hears = record { there = (2, omega arith, refl); host = refl; socket = refl; peer = refl; foreign = refl; live = refl };
  user_speaks = record { there = (3, omega arith, refl); host = refl; socket = refl; peer = refl; foreign = refl; live = refl };
})).0.asked in absurd (cc)

pub returns-clause-unserved : goal.returns-clause-unserved
returns-clause-unserved c = λ j. let both : None ≡ Some (own_request user_sends) = (j first second 100 16 older_at_server server_sends user_receives user_sends (record {
  served = record { entry = record { host = first; notices = 5; report = report.Server (outcome.Done 100 101) }; there = (0, omega arith, refl); by = refl; report = refl };
  asked = record { entry = record { host = second; notices = 7; report = report.User (outcome.Done 18 19) }; there = (1, omega arith, refl); by = refl; report = refl };
  server_hears = record { there = (0, omega arith, refl); host = refl; socket = refl; peer = refl; foreign = refl; live = refl };
  server_speaks = record { there = (1, omega arith, refl); host = refl; socket = refl; peer = refl; foreign = refl; live = refl };
  user_hears = record { there = (2, omega arith, refl); host = refl; socket = refl; peer = refl; foreign = refl; live = refl };
  user_speaks = record { there = (3, omega arith, refl); host = refl; socket = refl; peer = refl; foreign = refl; live = refl };
})).1.asked in absurd (cc)
