use Rattle.world_keeps_lives.proofs.Common.{◌≡◌, Bool, true, false, List, [], ◌∷◌, if◌then◌else◌, refl, ap, sym, subst, ◌∙◌, Contains, is_send_socket, has_cls, Entry, pair_with, sends, Moment, program, kept_in, Life, mine_on, ClosedFirst, ClosesFirst, all_lives}
use Rattle.bit_messages.specs.Octets.{octets_of}
use Rattle.ncp_control.specs.Packing.{packed_count}
use Rattle.ncp_control.specs.Reading.{read_of, command_of}
use Rattle.host_pairs.specs.Control.{orders_of}
use Rattle.sockets.specs.Accepting.{accepted}
use Rattle.sockets.specs.Requests.{refusal, served, served_notices}
use Rattle.sockets.specs.Sending.{next_out, offered}
use Rattle.world_keeps_lives.specs.WorkedFormed.{closing_moments, taken_moments}
use Rattle.world_keeps_lives.proofs.Walk.Never.{has_not, never_earlier, never_has, none_has}
use Rattle.world_keeps_lives.proofs.law.worked_not_first.Goals as goal

-- ---- whether the user of a sending life has closed its end, with the partner's CLS not taken yet

ends_first : List Entry → Bool
ends_first [] = false
ends_first (e ∷ es) = if e.partner_closed then false else has_cls e.closing

has_first : List Moment → Life → Bool
has_first ms x = if sends x then ends_first (mine_on x.socket (pair_with x.peer (program x.host ms).peers).entries) else false

-- an end that closes first shows it
shows : (heard closed : Bool) → heard ≡ false → closed ≡ true → (if heard then false else closed) ≡ true
shows false closed unheard closes = closes
shows true closed unheard closes = absurd (cc)

sending_shows : (is first : Bool) → is ≡ true → (if is then first else false) ≡ first
sending_shows true first sending = refl
sending_shows false first sending = absurd (cc)

not_then : (ms : List Moment) (x : Life) → never_has has_first ms ≡ true → Contains (kept_in ms).book.lives x → ClosesFirst ms x → ⊥
unfolding has_first ends_first
not_then ms x never there f =
    let is_not : has_first ms x ≡ false = has_not has_first ms x never there in
    let end : List Entry = mine_on x.socket (pair_with x.peer (program x.host ms).peers).entries in
    let shown : ends_first end ≡ true = ap ends_first f.end.one ∙ shows f.end.end.partner_closed _ f.unheard f.closed in
    let both : false ≡ true = sym is_not ∙ sending_shows (sends x) _ f.sending ∙ shown in
    absurd (cc)

not_so_far : (ms : List Moment) (x : Life) → never_has has_first ms ≡ true → ClosedFirst all_lives ms x → ⊥
not_so_far ms x never f = not_then f.earlier f.sender (never_earlier has_first f.later f.earlier (subst (λ (all : List Moment). never_has has_first all ≡ true) f.is never)) f.there f.first

pub returns-clause-unanswered : goal.returns-clause-unanswered
unfolding octets_of orders_of read_of command_of packed_count accepted refusal served served_notices next_out offered ends_first has_first none_has never_has
returns-clause-unanswered c = not_so_far closing_moments _ refl

pub returns-clause-taken : goal.returns-clause-taken
unfolding octets_of orders_of read_of command_of packed_count accepted refusal served served_notices next_out offered ends_first has_first none_has never_has
returns-clause-taken c = not_so_far taken_moments _ refl

pub returns-clause-sending : goal.returns-clause-sending
returns-clause-sending c = λ ms x f. ap (λ n. is_send_socket n.own) f.same ∙ f.first.sending
