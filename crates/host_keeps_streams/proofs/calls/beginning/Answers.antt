use Rattle.host_keeps_streams.proofs.calls.beginning.Goals as goal

pub returns-clause-sent : goal.returns-clause-sent
returns-clause-sent c name link = record { here = λ k f o. absurd (cc); known = tt }
