use Rattle.world_keeps_streams.proofs.Common.{◌≡◌, ◌||◌, inl, inr, Bool, true, false, List, [], ◌∷◌, ◌++◌, drop, refl, ap, sym, subst, ◌∙◌, taken_in, went_out, Flow, Crossing, HostMessage, Crossed, crossings_of, bits_sent, eight_sent, sent_moments}
use Rattle.sockets.specs.Worked.{first, second, on_link}
use Rattle.world_keeps_streams.specs.Arrivals.{Arrives, ComesFor}
use Rattle.bit_messages.specs.Octets.{octets_of}
use Rattle.interface.specs.Mailboxes.{same_flow}
use Rattle.interface.specs.declared.crossing.Crossing.TheVariants as crossing
use Rattle.ncp_control.specs.Packing.{packed_count}
use Rattle.ncp_control.specs.Reading.{read_of, command_of}
use Rattle.host_pairs.specs.Control.{orders_of}
use Rattle.sockets.specs.Accepting.{accepted}
use Rattle.sockets.specs.Requests.{refusal, served, served_notices}
use Rattle.sockets.specs.Sending.{next_out, offered}
use Rattle.net_sim.specs.Told.{kept_in}
use Rattle.promise.specs.declared.life.Life.{Life}
use Rattle.promise.specs.Safe.{receives}
use Rattle.world_keeps_streams.specs.Worked.{took}
use Rattle.world_keeps_streams.proofs.Books.Ended.{all_crossings}
use Rattle.world_keeps_streams.proofs.Lives.Lists.{IsOf, is_of}
use Rattle.world_keeps_streams.proofs.law.worked_answers.Goals as goal

abbrev theirs : Flow
theirs = on_link second first 2

-- ---- who it came for

one_life : (receiver : Life) → ComesFor eight_sent bits_sent receiver → receiver ≡ took
unfolding octets_of orders_of read_of command_of packed_count accepted refusal served served_notices next_out offered
one_life receiver c = by (is_of receiver (kept_in bits_sent).book.lives c.there) where
  by : IsOf receiver (kept_in bits_sent).book.lives → receiver ≡ took
  by (inl is) = absurd (let no : false ≡ true = ap receives (sym is) ∙ c.receiving in cc)
  by (inr (inl is)) = is
  by (inr (inr none)) = absurd none

it_arrives : Arrives eight_sent bits_sent took
unfolding octets_of orders_of read_of command_of packed_count accepted refusal served served_notices next_out offered
it_arrives = refl

pub returns-clause-taken : goal.returns-clause-taken
returns-clause-taken c = record {
  message = eight_sent;
  since = [];
  before = bits_sent;
  is = refl;
  out = record { since = []; message = eight_sent; before = drop 1 (crossings_of bits_sent); parts = refl; flow = refl; last = refl };
  whole = refl;
  untaken = refl;
  last = refl;
  once = refl;
  arrives = λ receiver comes. subst (λ (x : Life). Arrives eight_sent bits_sent x) (sym (one_life receiver comes)) it_arrives;
}

-- ---- what is newest

abbrev goes_out : List Crossing → Bool
goes_out [] = false
goes_out (crossing.Out m ∷ log) = same_flow theirs m.flow
goes_out (c ∷ log) = false

abbrev comes_in : List Crossing → Bool
comes_in [] = false
comes_in (crossing.In m ∷ log) = same_flow theirs m.flow
comes_in (c ∷ log) = false

-- a message went out since the last that came in
none_out : (since rest : List Crossing) (m : HostMessage) → goes_out (since ++ crossing.In m ∷ rest) ≡ true → went_out theirs since ≡ false → ⊥
none_out [] rest m e none = absurd (let no : false ≡ true = e in cc)
none_out (crossing.Out n ∷ since) rest m e none = absurd (let both : (true || went_out theirs since) ≡ false = ap (λ (v : Bool). v || went_out theirs since) (sym e) ∙ none in cc)
none_out (crossing.In n ∷ since) rest m e none = absurd (let no : false ≡ true = e in cc)
none_out (crossing.Answer k f ∷ since) rest m e none = absurd (let no : false ≡ true = e in cc)
none_out (crossing.Down h ∷ since) rest m e none = absurd (let no : false ≡ true = e in cc)
none_out (crossing.Up h ∷ since) rest m e none = absurd (let no : false ≡ true = e in cc)

-- the newest came in, so there is nothing after it
newest : (since rest : List Crossing) → comes_in (since ++ rest) ≡ true → taken_in theirs since ≡ [] → since ≡ []
newest [] rest e none = refl
newest (crossing.In n ∷ since) rest e none = absurd (let one : n.text ∷ taken_in theirs since ≡ [] = rw e at none in cc)
newest (crossing.Out n ∷ since) rest e none = absurd (let no : false ≡ true = e in cc)
newest (crossing.Answer k f ∷ since) rest e none = absurd (let no : false ≡ true = e in cc)
newest (crossing.Down h ∷ since) rest e none = absurd (let no : false ≡ true = e in cc)
newest (crossing.Up h ∷ since) rest e none = absurd (let no : false ≡ true = e in cc)

pub returns-clause-waits : goal.returns-clause-waits
returns-clause-waits c h =
    none_out (crossings_of h.since) (crossings_of h.before) h.message (ap goes_out (sym (ap crossings_of h.is ∙ all_crossings h.since (Crossed (crossing.In h.message) ∷ h.before)))) h.last

pub returns-clause-twice : goal.returns-clause-twice
returns-clause-twice c h =
    let is : crossings_of (Crossed (crossing.In eight_sent) ∷ sent_moments) ≡ crossings_of h.since ++ crossing.In h.message ∷ crossings_of h.before =
    ap crossings_of h.is ∙ all_crossings h.since (Crossed (crossing.In h.message) ∷ h.before) in
    let last : crossings_of h.since ≡ [] = newest (crossings_of h.since) (crossing.In h.message ∷ crossings_of h.before) (ap comes_in (sym is)) h.once in
    let older : crossings_of sent_moments ≡ h.out.since ++ crossing.Out h.out.message ∷ h.out.before =
    ap (drop 1) (is ∙ ap (λ (log : List Crossing). log ++ crossing.In h.message ∷ crossings_of h.before) last) ∙ h.out.parts in
    let none : h.out.since ≡ [] = newest h.out.since (crossing.Out h.out.message ∷ h.out.before) (ap comes_in (sym older)) h.untaken in
    let no : true ≡ false = ap comes_in (older ∙ ap (λ (log : List Crossing). log ++ crossing.Out h.out.message ∷ h.out.before) none) in
    absurd (cc)
