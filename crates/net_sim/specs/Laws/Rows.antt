-- The rows of src/ that are longer than a line: the fields of a record are the clauses of its function.
use Rattle.std.specs.Prelude.{Err, None, Ok, Result, Some, [], map, ◌++◌, ◌∷◌, ◌≡◌}
use Rattle.host_pairs.specs.declared.notice.Notice.TheVariants as notice
use Rattle.interface.specs.Calls.{Seen}
use Rattle.interface.specs.declared.carrier.CarrierFault.TheVariants as fault
use Rattle.interface.specs.declared.crossing.Answer.TheVariants as answer
use Rattle.interface.specs.declared.crossing.Crossing.TheVariants as crossing
use Rattle.net_sim.specs.Book.{asked, book_told, crossed}
use Rattle.net_sim.specs.Carriers.{IsBooked}
use Rattle.net_sim.specs.SmallLogs.{given_log, given_told, moved, taken_log, taken_told}
use Rattle.net_sim.specs.Story.{Asked}
use Rattle.net_sim.specs.Timeline.{events_in}
use Rattle.net_sim.specs.Told.{kept_in, notices_by}
use Rattle.net_sim.specs.Worked.{any_carrier, busy, crossings, down, eight, eight_zeros, four, fresh, giver, halted}
use Rattle.net_sim.specs.Worked.{lacking, message, opened_kept, over, receiver, sender, stamp_of, taker}
use Rattle.net_sim.specs.Worked as worked
use Rattle.net_sim.specs.WorkedMoments.{connected, contacted, eight_sent, notice_of, rts, sent_moments, str}
use Rattle.net_sim.specs.WorkedResets.{call, contacts}
use Rattle.net_sim.specs.Steps.{StepGives}
use Rattle.net_sim.specs.World.{Ask, Carrier, Offer, Program, WorldFault, WorldState, changed, seat_of, up_in}
use Rattle.promise.specs.Notices.{FormedNotices}
use Rattle.promise.specs.Safe.{before, control_flow, last_out, own_request, partner_request}
use Rattle.reset_law.specs.Events.{Contact, In, Other, Out}
use Rattle.sockets.specs.Pairs.{opening_state}
use Rattle.sockets.specs.Requests.{served}
use Rattle.sockets.specs.Worked.{first, on_link, second, third}
use Rattle.sockets.specs.declared.fault.NcpFault.TheVariants as problem
use Rattle.sockets.specs.declared.request.Request.TheVariants as request

-- What becomes of a life.
pub record WorkedLives : Type 0 where
  -- one begins at each host when its end is open, in the order in which they are reported
  pub opened : opened_kept.book.lives ≡ sender ∷ receiver ∷ []
  -- it has what was sent or taken, what was granted and what was returned
  pub used : worked.used.book.lives ≡ giver ∷ taker ∷ []
  pub more :
      (book_told first (notice.Arrived 16 four) (asked first (request.Grant 16 1 10) worked.used)).book.lives
      ≡ giver ∷ record taker { bits = eight ++ four; messages = 2; granted = record { messages = 3; bits = 110 } } ∷ []
  pub returned_again :
      (book_told first (notice.Returned 16 1 6) worked.used).book.lives
      ≡ giver ∷ record taker { returned = record { messages = 2; bits = 10 } } ∷ []
  -- a notice to one host is about its own sockets
  pub own_socket : (book_told second (notice.Arrived 16 four) worked.used).book.lives ≡ giver ∷ taker ∷ []
  -- it ends with its end, and the partner's life isn't over until it is reported too
  pub ended : (book_told first (notice.Ended 16 second 33) worked.used).book.lives ≡ giver ∷ over taker ∷ []
  -- an end of the same socket with another partner isn't meant
  pub another_end : (book_told first (notice.Ended 16 second 35) worked.used).book.lives ≡ giver ∷ taker ∷ []
  pub another_peer : (book_told first (notice.Ended 16 third 33) worked.used).book.lives ≡ giver ∷ taker ∷ []
  -- it ends with a reset of its pair at its host, whichever of the two that is
  pub reset : (book_told second (notice.PairReset first) worked.used).book.lives ≡ over giver ∷ taker ∷ []
  pub another_pair : (book_told second (notice.PairReset third) worked.used).book.lives ≡ giver ∷ taker ∷ []
  pub contact_failed : (book_told second (notice.ContactFailed first) worked.used).book.lives ≡ giver ∷ taker ∷ []
  -- it ends with its host, which ends no life of another
  pub down : (crossed (crossing.Down first) worked.used).book.lives ≡ giver ∷ over taker ∷ []
  pub up : (crossed (crossing.Up first) worked.used).book.lives ≡ giver ∷ taker ∷ []
  -- what comes later belongs to a new life of the socket, and not to the one that has ended
  pub again :
      (book_told first (notice.Arrived 16 four)
      (book_told first (notice.Opened 16 second 33 7 8)
      (book_told first (notice.Ended 16 second 33) opened_kept))).book.lives
      ≡ sender ∷ over receiver ∷ record receiver { own_stamp = 7; partner_stamp = 8; bits = four; messages = 1 } ∷ []
  pub granted_again :
      (asked first (request.Grant 16 2 100) (book_told first (notice.PairReset second) opened_kept)).book.lives
      ≡ sender ∷ over receiver ∷ []

-- Which request a life is about.
pub record WorkedRequests : Type 0 where
  -- a request is named by where it went out: the partner's by the last message of the peer on link 0 before it was
  -- taken
  pub own : own_request taker ≡ record { place = 0; own = 16; foreign = 33 }
  pub partner :
      (partner_request crossings taker ≡ Some (own_request giver)) ×
      (partner_request crossings giver ≡ Some (own_request taker))
  -- a message of another flow isn't meant, nor a later one
  pub another_link : last_out (control_flow first second) (crossing.Out (message first second 2) ∷ crossings) ≡ Some 0
  pub another_way : last_out (control_flow second first) crossings ≡ Some 2
  pub later : partner_request (crossing.Out (message second first 0) ∷ crossings) taker ≡ Some (own_request giver)
  -- the In itself isn't before its place
  pub before :
      before 4 crossings
      ≡ crossing.Answer answer.Rfnm (on_link first second 0) ∷ crossing.Out (message second first 0) ∷
      crossing.In (message first second 0) ∷ crossing.Out (message first second 0) ∷ []
  -- where the peer has said nothing there is none
  pub none : partner_request [] taker ≡ None

-- Why an event is refused, and what it does.
pub record WorkedWorlds : Type 0 where
  -- a host that isn't there and one that is down come before what the program says
  pub nobody :
      (r : Result (Unit {0}) WorldFault) (new : WorldState Seen) →
      StepGives any_carrier fresh (Ask third (request.Echo second 65)) r new →
      (r ≡ Err (Carrier fault.NoSuch)) × (new ≡ fresh)
  pub is_down :
      (r : Result (Unit {0}) WorldFault) (new : WorldState Seen) →
      StepGives any_carrier down (Ask second (request.Echo first 65)) r new →
      (r ≡ Err (Carrier fault.IsDown)) × (new ≡ down)
  pub refused :
      (r : Result (Unit {0}) WorldFault) (new : WorldState Seen) →
      StepGives any_carrier fresh (Ask second (request.Echo first 65)) r new →
      (r ≡ Err (Program problem.NotContacted)) × (new ≡ fresh)
  -- after memory has run out nothing comes before Stopped
  pub stopped :
      (r : Result (Unit {0}) WorldFault) (new : WorldState Seen) →
      StepGives any_carrier halted (Ask third (request.Echo second 65)) r new →
      (r ≡ Err (Carrier fault.Stopped)) × (new ≡ halted)
  -- the book then lacks what crossed in one event, and no more
  pub lacks_one : IsBooked any_carrier.seen (lacking (crossing.Out (message first second 0) ∷ []))
  pub lacks_stops : IsBooked any_carrier.seen (lacking (crossing.Down second ∷ crossing.Down first ∷ []))
  pub lacks_two :
      IsBooked any_carrier.seen
      (lacking (crossing.Out (message second first 0) ∷ crossing.Out (message first second 0) ∷ [])) → ⊥
  -- a host that has nothing to say offers nothing
  pub nothing :
      (r : Result (Unit {0}) WorldFault) (new : WorldState Seen) → StepGives any_carrier fresh (Offer first) r new →
      (r ≡ Ok tt) × (new ≡ fresh)
  -- a host that stops has no program, and its user's connections are over; one that starts has a new program
  pub stops :
      (seat_of second down.seats ≡ Some (record { host = second; program = None })) × (up_in down.seats ≡ first ∷ [])
  pub starts :
      seat_of second (changed fresh.carrier (crossing.Up second ∷ []) down).seats
      ≡ Some (record { host = second; program = Some (opening_state second) })
  pub both : up_in (changed fresh.carrier (crossing.Down second ∷ crossing.Down first ∷ []) fresh).seats ≡ []
  pub anew :
      seat_of first (changed fresh.carrier (crossing.Up first ∷ crossing.Down first ∷ []) busy).seats
      ≡ Some (record { host = first; program = Some (opening_state first) })
  -- what a user asks for is in the book before what it is notified of it, and changes its own host only
  pub asked : busy.kept.book.contacts ≡ record { host = first; place = 0; peer = second } ∷ []
  pub served :
      (seat_of first busy.seats
      ≡ Some (record { host = first; program = Some (served (opening_state first) (request.Contact second)) })) ×
      (seat_of second busy.seats ≡ seat_of second fresh.seats)

-- A notice of data reports to its host, with the message's data, a socket whose connection has the message's link.
pub record UnformedNotices : Type 0 where
  -- nothing arrives on a socket that sends, though a connection of it has this link
  pub kind :
      FormedNotices
      (crossing.In eight_sent ∷ crossing.In (moved second first 0 rts) ∷ crossing.Out (moved first second 0 str) ∷ [])
      (record taken_told { notice = notice.Arrived 33 eight } ∷ []) → ⊥
  -- both requests have crossed
  pub partner_unheard :
      FormedNotices (crossing.In eight_sent ∷ crossing.Out rts ∷ []) (record taken_told { place = 2 } ∷ []) → ⊥
  pub own_unsaid :
      FormedNotices (crossing.In eight_sent ∷ crossing.In str ∷ []) (record taken_told { place = 2 } ∷ []) → ⊥
  -- other bits were sent, and on another socket
  pub sent_bits : FormedNotices given_log (record given_told { notice = notice.Sent 33 eight_zeros } ∷ []) → ⊥
  pub sent_socket : FormedNotices given_log (record given_told { notice = notice.Sent 35 eight } ∷ []) → ⊥
  pub arrived_socket : FormedNotices taken_log (record taken_told { notice = notice.Arrived 18 eight } ∷ []) → ⊥
  -- an arrival is reported to the host that took the message
  pub another_host : FormedNotices taken_log (record taken_told { host = third } ∷ []) → ⊥

-- What is kept of moments.
pub record WorkedTellings : Type 0 where
  -- each host is informed that the pair is ready, the second where it takes the RST, the first where it takes the RRP
  pub ready :
      (map notice_of (kept_in contacted).book.notices
      ≡ (second, notice.Ready first) ∷ (first, notice.Ready second) ∷ []) ×
      (map stamp_of (kept_in contacted).book.notices ≡ (second, 2) ∷ (first, 5) ∷ [])
  -- a contact notifies its own host that an older one is over, and nobody else
  pub again : notices_by (Asked second (request.Contact first)) contacted ≡ notice.PairReset first ∷ []
  pub others : notices_by (Asked second (request.Listen 35 8)) contacted ≡ []
  -- a connection is open at its sender where the STR goes out, and at its receiver where it is taken
  pub opened :
      (kept_in connected).book.lives
      ≡ record sender { own_stamp = 8; partner_stamp = 7 } ∷ record receiver { own_stamp = 6; partner_stamp = 10 } ∷ []
  -- what was handed over is sent and taken, within what was granted
  pub lives :
      (kept_in sent_moments).book.lives
      ≡ record sender { own_stamp = 8; partner_stamp = 7; bits = eight; messages = 1 } ∷
      record receiver {
        own_stamp = 6;
        partner_stamp = 10;
        bits = eight;
        messages = 1;
        granted = record { messages = 2; bits = 100 };
      } ∷ []
  pub handed : (kept_in sent_moments).handed ≡ eight ∷ [] ∷ []

-- Crossings and contacts in one list.
pub record WorkedEvents : Type 0 where
  -- each contact is above the crossings that were before it, and of two at one place the later one is above
  pub placed :
      events_in (call first 0 second ∷ call second 1 first ∷ call first 1 third ∷ [])
      (crossing.In (message first second 2) ∷ crossing.Out (message first second 2) ∷ [])
      ≡ In first second 2 (Other eight) ∷ Contact first third ∷ Contact second first ∷
      Out first second 2 (Other eight) ∷ Contact first second ∷ []
  -- one after the last crossing is above it
  pub last :
      events_in (call first 1 second ∷ []) (crossing.Out (message first second 2) ∷ [])
      ≡ Contact first second ∷ Out first second 2 (Other eight) ∷ []
  pub none : events_in contacts [] ≡ Contact first second ∷ []
