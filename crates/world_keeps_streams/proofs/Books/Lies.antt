-- Data that are taken lie in the box of the law of streams.
use Rattle.world_keeps_streams.proofs.Common.{◌≡◌, ◌==◌, ℕ, Bool, true, false, List, ◌∷◌, drop, Some, refl, ap, sym, subst, ◌∙◌, Host, HostMessage, data_bits, header_of, DataHeader, data_of, IsPosted, Lies, Post, boxes, Message, Other, HaveAddresses, message_on, Crossed, Moment, events_of, crossings_of, coupled, mail_below, waiting, Happened, Network, AreOurs}
use Rattle.interface.specs.Mailboxes as mail
use Rattle.interface.specs.declared.crossing.Crossing.TheVariants as crossing
use Rattle.stream_law.specs.Streams.{Box, Empty, Waiting, Taken}
use Rattle.reset_law.specs.Boxes as reset
use Rattle.reset_law.specs.Stays as stay
use Rattle.world_keeps_streams.proofs.Steps.Joined.{Joined, post_in}
use Rattle.world_keeps_streams.proofs.Steps.JoinedAll.{joined}

-- what waits in the law's box
pub record Boxed (text : List Bool) (box : Box) : Type 0 where
  pub connection : ℕ
  pub size : ℕ
  pub bits : List Bool
  pub header : DataHeader
  pub is : box ≡ Waiting connection size bits
  pub header_is : header_of text ≡ Some header
  pub size_is : header.size ≡ size
  pub data_is : data_of (data_bits header) text ≡ bits
  pub whole : drop 40 text ≡ bits

boxed : (text : List Bool) (box : Box) → IsPosted (Lies text) box → Boxed text box
boxed text Empty p = absurd p
boxed text (Waiting c z bits) p = record { connection = c; size = z; bits = bits; header = p.0; is = refl; header_is = p.1; size_is = p.2; data_is = p.3; whole = p.4 }
boxed text Taken p = absurd p

-- ---- a message that is taken

-- data come from a peer to a host that stays with it
pub record IsTaken (m : HostMessage) (ms : List Moment) (h p : Host) : Type 0 where
  pub stays : stay.stays h p (events_of ms) ≡ true
  pub host : h ≡ m.flow.destination
  pub peer : p ≡ m.flow.source
  pub off_control : (m.flow.link.0 == 0) ≡ false

module _ (hosts : Network) (addresses : HaveAddresses hosts.all) (m : HostMessage) (ms : List Moment)
    (run : mail.IsRun hosts.all (crossings_of (Crossed (crossing.In m) ∷ ms)))
    (time : Happened hosts (Crossed (crossing.In m) ∷ ms)) (h p : Host) (ours : AreOurs hosts h p)
    (f : IsTaken m ms h p) where
  abbrev link : ℕ
  link = m.flow.link.0

  text_is : message_on link m.text ≡ Other m.text
  text_is = rw f.off_control refl

  waits : (n : ℕ) × (boxes p h (events_of ms) link ≡ reset.Waiting n (message_on link m.text))
  waits =
      waiting (boxes p h (events_of ms) link) (message_on link m.text)
      (subst (λ (g : Host). reset.WaitsWith (boxes g h (events_of ms) link) (message_on link m.text)) (sym f.peer)
      (subst (λ (g : Host). reset.WaitsWith (boxes m.flow.source g (events_of ms) link) (message_on link m.text)) (sym f.host) (coupled hosts addresses (Crossed (crossing.In m) ∷ ms) run time).run.0.1))

  lies : post_in (boxes p h (events_of ms) link) ≡ Lies m.text
  lies = ap post_in waits.1 ∙ ap (λ (n : Message). post_in (reset.Waiting waits.0 n)) text_is

  abbrev j : Joined h p link ms
  j = joined m.flow.link.0 f.off_control hosts addresses h p ours ms (mail_below hosts.all (Crossed (crossing.In m)) ms run) time.1

  pub lies_there : Boxed m.text (joined m.flow.link.0 f.off_control hosts addresses h p ours ms (mail_below hosts.all (Crossed (crossing.In m)) ms run) time.1).x.box
  lies_there = boxed m.text j.x.box (by (stay.stays p h (events_of ms)) refl) where
    by : (v : Bool) → stay.stays p h (events_of ms) ≡ v → IsPosted (Lies m.text) j.x.box
    by true e = subst (λ (q : Post). IsPosted q j.x.box) lies (j.joint.box_x.whole e)
    by false e = j.joint.box_x.left e f.stays m.text lies
