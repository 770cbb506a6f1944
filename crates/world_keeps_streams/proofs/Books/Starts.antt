-- Two hosts and their streams before anything happened.
use Rattle.world_keeps_streams.proofs.Common.{◌≡◌, ℕ, suc, [], refl, Host, opening_stream, numbered, numbered_tells, opened}
use Rattle.world_keeps_streams.proofs.Steps.Joined.{Joined, party, numbered_by_peer, turned_tells}

abbrev pub started : (a b : Host) (link : ℕ) → Joined a b link []
started a b link = record {
  x = opening_stream;
  y = opening_stream;
  rest_a = [];
  rest_b = [];
  joint = opened numbered numbered_by_peer numbered_tells turned_tells link (party a b link [] []) (party b a link [] []) refl refl refl refl (λ own foreign. refl) (λ own foreign. refl) refl refl;
  queue_a = λ e. absurd (cc);
  queue_b = λ e. absurd (cc);
  received_a = λ e. absurd (cc);
  sent_a = λ e. absurd (cc);
  received_b = λ e. absurd (cc);
  sent_b = λ e. absurd (cc);
  allowed_a = λ e. absurd (cc);
  allowed_b = λ e. absurd (cc);
}

pub starts : (a b : Host) (n : ℕ) → (j : Joined a b (suc n) []) × (j.x ≡ opening_stream)
starts a b n = (started a b (suc n), refl)
