use Rattle.mixed_worlds.proofs.Common.{◌≡◌, Bool, true, false, List, ◌∷◌, if◌then◌else◌, refl, Host, same_host, HostMessage, Moment, Crossed, places, program, safe_messages, accepted, pair_with, crossings_of, mixed_kept}
use Rattle.sockets.proofs.lemmas.{message_leaves, message_about}
use Rattle.mixed_worlds.proofs.Moments.{Orders}
use Rattle.interface.specs.declared.crossing.Crossing.TheVariants as crossing
use Rattle.interface.specs.declared.crossing.Inbound.TheVariants as inbound
use Rattle.world_keeps_lives.proofs.lemmas.{live_end, safe_life, any_message}
use Rattle.mixed_worlds.proofs.AskedLives.{data_reported, has_asked, plain_owner}
use Rattle.mixed_worlds.proofs.CarriedLives.{is_carried}
use Rattle.mixed_worlds.proofs.Handed.{beside_in, safe_beside}
use Rattle.mixed_worlds.proofs.OnceLives.{own_once, partner_once}
use Rattle.mixed_worlds.proofs.Sockets.{held}
use Rattle.mixed_worlds.proofs.law.toward.Goals as goal

others_leave : (a h : Host) (m : HostMessage) (moments : List Moment) → same_host h m.flow.source ≡ false
    → pair_with h (program a (Crossed (crossing.In m) ∷ moments)).peers ≡ pair_with h (program a moments).peers
others_leave a h m moments apart = by (same_host a m.flow.destination) where
  by : (b : Bool)
      →
      pair_with h
      (if b then (accepted (program a moments) (inbound.Message m) (places moments)).0 else program a moments).peers
      ≡ pair_with h (program a moments).peers
  by true = message_leaves (program a moments) m (places moments) h apart
  by false = refl

pub returns : goal.returns
returns c =
    let orders : Orders = record {
      request = c.orders.ensures.request;
      message = c.orders.ensures.message;
      answer = c.orders.ensures.answer;
      offer = c.orders.ensures.offer;
    } in
    record {
      ends = any_message;
      sockets = λ strange hosts moments mixed a socket off.
          (held strange hosts a off socket moments mixed).socket;
      live = λ strange hosts moments mixed x there off goes.
          live_end (program x.host moments) (mixed_kept strange moments) x there goes
          (held strange hosts x.host off x.socket moments mixed);
      taken = λ strange hosts moments mixed x there off kind.
          (safe_life (program x.host moments) (mixed_kept strange moments) x there
          (held strange hosts x.host off x.socket moments mixed)).1.within kind;
      bounded = λ strange hosts moments mixed x there off kind.
          (safe_life (program x.host moments) (mixed_kept strange moments) x there
          (held strange hosts x.host off x.socket moments mixed)).1.bounded kind;
      handed = λ strange hosts moments mixed x text there kind.
          (safe_beside (program x.host moments) (mixed_kept strange moments) x text there
          (held strange hosts x.host (plain_owner orders strange hosts moments mixed x (beside_in x text (mixed_kept strange moments).book.lives
          (mixed_kept strange moments).handed there)) x.socket moments mixed)).front kind;
      owner = λ strange hosts moments mixed x there.
          plain_owner orders strange hosts moments mixed x there;
      asked = λ strange hosts moments mixed x there.
          has_asked orders strange hosts moments mixed x there;
      once = λ strange hosts moments mixed. record {
        own = own_once orders strange hosts moments mixed;
        partner = partner_once orders strange hosts moments mixed;
      };
      carried = λ strange hosts moments mixed x there.
          is_carried orders strange hosts moments mixed x there;
      reported = λ strange hosts x moments mixed off n there.
          data_reported orders strange hosts x moments mixed off n there;
      sender = λ m moments. message_about (program m.flow.destination moments) m (places moments);
      others = others_leave;
      messages = λ strange hosts moments mixed. safe_messages hosts (crossings_of moments) mixed.run;
    }
