-- What two hosts say and hear of their connections one way, and the lives of a book.
use Rattle.std.specs.List.{Contains}
use Rattle.std.specs.Prelude.{◌∷◌, ◌≡◌, [], IsSome, List, Some, true, ℕ}
use Rattle.interface.specs.Calls.{Calls}
use Rattle.interface.specs.Host.{Host}
use Rattle.interface.specs.Mailboxes as mail
use Rattle.ncp_control.specs.Numbers.{is_receive_socket, is_send_socket}
use Rattle.sockets.specs.Pairs.{pair_with}
use Rattle.reset_law.specs.Events as reset
use Rattle.reset_law.specs.Network.{AreOurs, Network}
use Rattle.reset_law.specs.Runs as runs
use Rattle.reset_law.specs.Stays as stay
use Rattle.pairing_law.specs.Links.{AreSteps, events_at, heard_words, receiver, Receiver, said_words, Sender, sender}
use Rattle.pairing_law.specs.Links.{Sockets, stays}
use Rattle.pairing_law.specs.Partners.{IsIn, SafePartners}
use Rattle.pairing_law.specs.Sides.{both}
use Rattle.host_keeps_pairing.specs.Ends.{HasEnd}
use Rattle.host_keeps_pairing.specs.Openings.{AreAmong}
use Rattle.promise.specs.Safe.{AreTwo, Match, own_request, partner_request, receives}
use Rattle.promise.specs.Safe as book
use Rattle.promise.specs.declared.life.Life.{Life}
use Rattle.net_sim.specs.Among.{lives_among}
use Rattle.net_sim.specs.Clean.{HaveAddresses, IsLawful}
use Rattle.net_sim.specs.Mixed.{Happened, mixed_kept}
use Rattle.net_sim.specs.Story.{Moment, program}
use Rattle.net_sim.specs.Timeline.{crossings_of}
use Rattle.net_sim.specs.World.{WorldState}
use Rattle.world_keeps_pairing.specs.Free.{law_events, origin_in}
use Rattle.world_keeps_pairing.specs.Lives.{ArePaired, life_of, with_lives}
use Rattle.world_keeps_pairing.specs.Lives as lives
use Rattle.world_keeps_pairing.specs.Steps.{onto, spoken_by, steps, words_of}
use Rattle.world_keeps_pairing.specs.Steps as pairing

-- The steps of two hosts, over any list of events of the law of resets.
pub record Dialogues : Type 0 where
  -- each stays where that law has it
  pub stays :
      (a b : Host) (events : List reset.Event) →
      (stays Receiver (steps a b events) ≡ stay.stays a b events) ×
      (stays Sender (steps a b events) ≡ stay.stays b a events)
  -- what each said and heard in its last stay is what is in the texts of that law
  pub said :
      (a b : Host) (events : List reset.Event) →
      (said_words Receiver (steps a b events) ≡ onto (words_of Receiver (stay.said_in_stay a b 0 events)) []) ×
      (said_words Sender (steps a b events) ≡ onto (words_of Sender (stay.said_in_stay b a 0 events)) [])
  pub heard :
      (a b : Host) (events : List reset.Event) →
      (heard_words Receiver (steps a b events) ≡ onto (words_of Sender (stay.heard_in_stay b a 0 events)) []) ×
      (heard_words Sender (steps a b events) ≡ onto (words_of Receiver (stay.heard_in_stay a b 0 events)) [])
  -- in a run, whatever they say, if they may say it, each hears only what it may, and they meet as they may
  pub may :
      (hosts : Network) (e : reset.Event) (events : List reset.Event) (a b : Host) → AreOurs hosts a b →
      runs.IsRun hosts (e ∷ events) →
      AreSteps (spoken_by a b e (steps a b events)) → AreSteps (steps a b (e ∷ events))

-- The programs of two hosts, over any list of moments of a world: all that crosses between them, and what their users
-- ask for.
pub record Programs : Type 0 where
  -- their steps may be, by the law of pairing: all that each hears is in order, and no RTS names a link that another
  -- end has
  pub steps :
      (hosts : Network) (moments : List Moment) → HaveAddresses hosts.all → mail.IsRun hosts.all (crossings_of moments) →
      Happened hosts moments → (a b : Host) → AreOurs hosts a b → AreSteps (pairing.steps a b (law_events moments))
  -- and each program has, for each receiving socket and each sending one, the end that the law says. A partner's
  -- request is given by the place where the peer's last message before it went out
  pub receiver :
      (hosts : Network) (moments : List Moment) → HaveAddresses hosts.all → mail.IsRun hosts.all (crossings_of moments) →
      Happened hosts moments → (a b : Host) → AreOurs hosts a b → (s : Sockets) → is_receive_socket s.receive ≡ true →
      is_send_socket s.send ≡ true →
      HasEnd (origin_in (crossings_of moments) a b) s.receive s.send (pair_with b (program a moments).peers)
      (receiver s (pairing.steps a b (law_events moments))).end
  pub sender :
      (hosts : Network) (moments : List Moment) → HaveAddresses hosts.all → mail.IsRun hosts.all (crossings_of moments) →
      Happened hosts moments → (a b : Host) → AreOurs hosts a b → (s : Sockets) → is_receive_socket s.receive ≡ true →
      is_send_socket s.send ≡ true →
      HasEnd (origin_in (crossings_of moments) b a) s.send s.receive (pair_with a (program b moments).peers)
      (sender s (pairing.steps a b (law_events moments))).end
  -- so for each pair of their sockets no two openings of a host have one request, their own or their partner's, and
  -- where the partner's request of one is the other host's own the reverse holds too
  pub partners :
      (hosts : Network) (moments : List Moment) → HaveAddresses hosts.all → mail.IsRun hosts.all (crossings_of moments) →
      Happened hosts moments → (a b : Host) → AreOurs hosts a b → (s : Sockets) →
      SafePartners (both (events_at s (pairing.steps a b (law_events moments))))

-- the lives in the book of these moments whose hosts both run the program
abbrev pub among : Network → List Moment → List Life
among hosts moments = lives_among hosts.strange (mixed_kept hosts.strange moments).book.lives

-- The lives of a book between two hosts with programs, over any list of moments of a network, whatever its strangers do.
pub record Lives : Type 0 where
  -- the lives of a host's socket with a peer's are some of the openings that the law says, in their order: each with
  -- the place where its own request went out, and that where its partner's did
  pub openings :
      (hosts : Network) (moments : List Moment) → HaveAddresses hosts.all → mail.IsRun hosts.all (crossings_of moments) →
      Happened hosts moments → (h peer : Host) → AreOurs hosts h peer → (own foreign : ℕ) →
      AreAmong
      (with_lives (origin_in (crossings_of moments) h peer) h peer own foreign (mixed_kept hosts.strange moments).book.lives
      []) (lives.openings h peer own foreign moments)
  -- so each of them is an opening of the law
  pub opening :
      (hosts : Network) (moments : List Moment) → HaveAddresses hosts.all → mail.IsRun hosts.all (crossings_of moments) →
      Happened hosts moments → (x : Life) → Contains (among hosts moments) x →
      IsIn (life_of (origin_in (crossings_of moments) x.host x.peer) x)
      (lives.openings x.host x.peer x.socket x.foreign moments)
  -- one of its sockets receives and the other sends
  pub paired :
      (hosts : Network) (moments : List Moment) → HaveAddresses hosts.all → mail.IsRun hosts.all (crossings_of moments) →
      Happened hosts moments → (x : Life) → Contains (among hosts moments) x → ArePaired x
  -- each took a request of its partner's, which had gone out
  pub named :
      (hosts : Network) (moments : List Moment) → HaveAddresses hosts.all → mail.IsRun hosts.all (crossings_of moments) →
      Happened hosts moments → (x : Life) → Contains (among hosts moments) x →
      IsSome (partner_request (crossings_of moments) x)
  -- and no request opens two ends of one sort in the whole book, and partners are partners both ways
  pub partners :
      (hosts : Network) (moments : List Moment) → HaveAddresses hosts.all → mail.IsRun hosts.all (crossings_of moments) →
      Happened hosts moments → book.SafePartners (crossings_of moments) (among hosts moments)
  -- so a life that receives matches the life whose own request it took, and no other
  pub matches :
      (hosts : Network) (moments : List Moment) → HaveAddresses hosts.all → mail.IsRun hosts.all (crossings_of moments) →
      Happened hosts moments → (receiver sender : Life) → Contains (among hosts moments) receiver →
      Contains (among hosts moments) sender → receives receiver ≡ true →
      partner_request (crossings_of moments) receiver ≡ Some (own_request sender) →
      Match (crossings_of moments) receiver sender
  pub one :
      (hosts : Network) (moments : List Moment) → HaveAddresses hosts.all → mail.IsRun hosts.all (crossings_of moments) →
      Happened hosts moments → (receiver x y : Life) → AreTwo (among hosts moments) x y →
      Match (crossings_of moments) receiver x → Match (crossings_of moments) receiver y → ⊥

-- The lives in the book of a world, over any carrier.
pub record Books {C : Type 0} (calls : Calls C) : Type 0 where
  -- each took a request of its partner's, which had gone out
  pub named :
      (hosts : List Host) (w : WorldState C) → IsLawful calls.seen hosts w → (x : Life) → Contains w.kept.book.lives x →
      IsSome (partner_request w.kept.book.crossings x)
  -- no request opens two ends of one sort, and partners are partners both ways
  pub partners :
      (hosts : List Host) (w : WorldState C) → IsLawful calls.seen hosts w →
      book.SafePartners w.kept.book.crossings w.kept.book.lives
  -- a life that receives matches the life whose own request it took, and no other
  pub matches :
      (hosts : List Host) (w : WorldState C) → IsLawful calls.seen hosts w → (receiver sender : Life) →
      Contains w.kept.book.lives receiver → Contains w.kept.book.lives sender → receives receiver ≡ true →
      partner_request w.kept.book.crossings receiver ≡ Some (own_request sender) →
      Match w.kept.book.crossings receiver sender
  pub one :
      (hosts : List Host) (w : WorldState C) → IsLawful calls.seen hosts w → (receiver x y : Life) →
      AreTwo w.kept.book.lives x y → Match w.kept.book.crossings receiver x → Match w.kept.book.crossings receiver y → ⊥
