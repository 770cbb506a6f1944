-- Data of a sending life come for the receiving life that it matches.
use Rattle.world_keeps_streams.proofs.Common.{◌≡◌, ℕ, ◌==◌, true, false, List, ◌∷◌, Some, refl, sym, subst, ◌∙◌, ◌++◌, Seen, Host, HostMessage, some_is, is_link, numbered, HaveAddresses, IsLawful, Crossed, Moment, crossings_of, WorldState, mail_below, numbered_by_peer, Happened, Network, AreOurs, all_ours, linked_end}
use Rattle.host_keeps_streams.proofs.lemmas.{numbered_tells, link_is}
use Rattle.world_keeps_streams.specs.Arrivals.{ComesFor, AllCome, ComesBetween}
use Rattle.interface.specs.Mailboxes as mail
use Rattle.interface.specs.declared.crossing.Crossing.TheVariants as crossing
use Rattle.pair_keeps_streams.proofs.lemmas.{linked_waiting}
use Rattle.promise.specs.declared.life.Life.{Life}
use Rattle.world_keeps_streams.proofs.Books.Arrives.{rest_lawful}
use Rattle.world_keeps_streams.proofs.Books.Closes.{AtLink}
use Rattle.world_keeps_streams.proofs.Books.Firsts.{together}
use Rattle.world_keeps_streams.proofs.Books.Lies.{Boxed, lies_there}
use Rattle.world_keeps_streams.proofs.Books.One as one
use Rattle.world_keeps_streams.proofs.Books.One.{HasPartner}
use Rattle.world_keeps_streams.proofs.Requests.Sides.{Lawful, book_lawful}
use Rattle.world_keeps_streams.proofs.Steps.Joined.{Joined, party, turned_tells}
use Rattle.world_keeps_streams.proofs.Steps.JoinedAll.{joined}
use Rattle.world_keeps_streams.proofs.Ours.{ours_sender}
use Rattle.world_keeps_streams.proofs.Lives.Among.{among_now}

module _ (hosts : Network) (addresses : HaveAddresses hosts.all) (m : HostMessage) (ms : List Moment)
    (run : mail.IsRun hosts.all (crossings_of (Crossed (crossing.In m) ∷ ms)))
    (time : Happened hosts (Crossed (crossing.In m) ∷ ms)) (x s : Life) (ours : AreOurs hosts x.host x.peer)
    (f : ComesBetween m ms x s) where
  abbrev lawful : Lawful hosts ms
  lawful = (addresses, mail_below hosts.all (Crossed (crossing.In m)) ms run, time.1)

  -- the end of a life has no link 0
  off : (m.flow.link.0 == 0) ≡ false
  off =
      let k : (n : ℕ) × (f.giver.end.link ≡ Some n) × ((n == 0) ≡ false) = linked_end hosts (together hosts) ms lawful s (among_now hosts ms s (ours_sender hosts f.matches ours) f.sender_there) f.sender_goes f.giver in
      subst (λ (n : ℕ). (n == 0) ≡ false) (some_is k.0 m.flow.link.0 (sym k.1 ∙ f.linked)) k.2

  host : x.host ≡ m.flow.destination
  host = sym f.matches.peers.1 ∙ f.peer

  peer : x.peer ≡ m.flow.source
  peer = f.matches.peers.0 ∙ f.host

  abbrev link : ℕ
  link = m.flow.link.0

  own_link : (k : ℕ) × (f.end.end.link ≡ Some k) × ((k == 0) ≡ false)
  own_link = linked_end hosts (together hosts) ms lawful x (among_now hosts ms x ours f.there) f.goes f.end

  abbrev taker : AtLink hosts ms x
  taker = record { ours = ours; there = f.there; receiving = f.matches.receiving; goes = f.goes; end = f.end; link = own_link.0; linked = own_link.1 }

  abbrev partner : HasPartner ms x s
  partner = record { there = f.sender_there; matches = f.matches; goes = f.sender_goes; end = f.giver }

  lies : Boxed m.text (joined m.flow.link.0 off hosts addresses x.host x.peer ours ms lawful.1 time.1).x.box
  lies = lies_there hosts addresses m ms run time x.host x.peer ours (record { stays = one.here hosts ms lawful x s taker partner; host = host; peer = peer; off_control = off })

  abbrev j : Joined x.host x.peer link ms
  j = joined m.flow.link.0 off hosts addresses x.host x.peer ours ms lawful.1 time.1

  linked : is_link link f.end.end.link ≡ true
  linked =
      linked_waiting numbered numbered_by_peer numbered_tells turned_tells link j.x j.y (party x.host x.peer link j.rest_a ms) (party x.peer x.host link j.rest_b ms) j.joint (one.here hosts ms lawful x s taker partner) (one.there hosts ms lawful x s taker partner)
      f.end.end f.giver.end (one.of_one hosts ms lawful x s taker partner link j) (one.sends_on_it hosts ms lawful x s taker partner link j f.linked) lies.connection lies.size lies.bits lies.is

  pub comes : ComesFor m ms x
  comes = record {
    there = f.there;
    receiving = f.matches.receiving;
    goes = f.goes;
    host = host;
    peer = peer;
    end = f.end;
    link = link_is link f.end.end.link linked;
    unclosed = f.unclosed;
    off_control = off;
  }

-- ---- over a list of moments, and in worlds

pub all_come : (hosts : Network) (ms : List Moment) → Lawful hosts ms → (m : HostMessage) (later earlier : List Moment)
    → ms ≡ later ++ Crossed (crossing.In m) ∷ earlier → (x s : Life) → AreOurs hosts x.host x.peer
    → ComesBetween m earlier x s
    → ComesFor m earlier x
all_come hosts ms l m later earlier is x s ours f =
    let k : Lawful hosts (Crossed (crossing.In m) ∷ earlier) = rest_lawful hosts later (Crossed (crossing.In m) ∷ earlier) (subst (λ (ns : List Moment). Lawful hosts ns) is l) in
    comes hosts k.0 m earlier k.1 k.2 x s ours f

pub world_comes : {C : Type 0} (seen : C → Seen) (hosts : List Host) (w : WorldState C) → (lawful : IsLawful seen hosts w) → AllCome lawful.whole.moments
world_comes seen hosts w lawful m later earlier is x s = all_come (all_ours hosts) lawful.whole.moments (book_lawful seen hosts w lawful) m later earlier is x s (refl, refl)
