-- What a host that runs the program keeps with each peer, whatever that sends (NIC 8246, RTS, STR, ALL and data
-- messages).
use Rattle.std.specs.Prelude.{◌≡◌, ◌⊎◌, ℕ, ◌+◌, ◌<◌, ◌==◌, Bool, true, false, List, [], ◌∷◌, ◌++◌, length}
use Rattle.std.specs.Prelude.{IsSome}
use Rattle.interface.specs.declared.address.Flow.{Flow}
use Rattle.interface.specs.declared.crossing.Crossing.{Crossing}
use Rattle.interface.specs.declared.crossing.Crossing.TheVariants as crossing
use Rattle.host_pairs.specs.declared.notice.Notice.{Notice}
use Rattle.host_pairs.specs.declared.notice.Notice.TheVariants as notice
use Rattle.ncp_control.specs.declared.command.Command.TheVariants as command
use Rattle.promise.specs.Formed.{AreData, HasCrossed, coming, flow_of, going, own_named, partner_named}
use Rattle.promise.specs.Safe.{AreTwo, Name, own_request, receives, sends}
use Rattle.promise.specs.declared.life.Life.{Life}
use Rattle.net_sim.specs.Story.{Crossed, Moment}
pub use Rattle.world_keeps_streams.specs.Granted.{IsWithin, granted_at, granted_in, granted_to, may_grant}

-- both requests of a life crossed, for its two sockets: its own went out at its own stamp, and its partner's came in at
-- its partner stamp. The RTS of the two names a link, and the STR a byte size. Nothing is said of its messages
pub record HasAsked (log : List Crossing) (x : Life) : Type 0 where
  pub own : IsSome (own_named log x)
  pub partner : IsSome (partner_named log x)

-- the request of a life's partner, by the place where it came in, and its two sockets as its sender sees them
abbrev pub taken_request : Life → Name
taken_request x = record { place = x.partner_stamp; own = x.foreign; foreign = x.socket }

-- no two lives have the same own request, nor the same one of their partner
pub record AreOnce (lives : List Life) : Type 0 where
  pub own : (x y : Life) → AreTwo lives x y → own_request x ≡ own_request y → ⊥
  pub partner : (x y : Life) → AreTwo lives x y → taken_request x ≡ taken_request y → ⊥

-- a message of a flow comes in, or goes out, with these data
abbrev pub HasData : Bool → Flow → Crossing → List Bool → Type 0
HasData true f (crossing.In m) bits = (m.flow ≡ f) × AreData true m.text bits
HasData false f (crossing.Out m) bits = (m.flow ≡ f) × AreData false m.text bits
HasData comes f c bits = ⊥

-- these bits are the data of this many messages of a flow that crossed after two places, in their order. Others may
-- have crossed there between them
abbrev pub AreOf : Bool → Flow → ℕ → ℕ → List Crossing → ℕ → List Bool → Type 0
AreOf comes f a b [] count bits = (count ≡ 0) × (bits ≡ [])
AreOf comes f a b (c ∷ log) count bits =
    AreOf comes f a b log count bits ⊎
    ((fewer : ℕ) × (front : List Bool) × (last : List Bool) × (count ≡ fewer + 1) × (bits ≡ front ++ last)
    × HasData comes f c last × (a < length log) × (b < length log) × AreOf comes f a b log fewer front)

-- this link is named by an RTS of its peer for the two sockets of a life, in the message that its host took at its
-- partner stamp
abbrev pub IsNamed : List Crossing → Life → ℕ → Type 0
IsNamed log x link = HasCrossed coming x.peer x.host x.partner_stamp (command.Rts x.foreign x.socket link) log

-- this link is named by its own RTS for its two sockets, in the message that went out at its own stamp
abbrev pub NamesItself : List Crossing → Life → ℕ → Type 0
NamesItself log x link = HasCrossed going x.host x.peer x.own_stamp (command.Rts x.socket x.foreign link) log

-- the bits of a life are those of as many messages as it counts, on one link, after both its requests: they came in
-- from its peer, or went out to it. A life that sends has the link that its peer named, and is within what its peer
-- granted there; one that receives has the link which it named itself
pub record IsCarried (log : List Crossing) (x : Life) : Type 0 where
  pub link : ℕ
  pub messages : AreOf (receives x) (flow_of x link) x.own_stamp x.partner_stamp log x.messages x.bits
  pub named : sends x ≡ true → IsNamed log x link
  pub within : sends x ≡ true → IsWithin log x link
  pub itself : receives x ≡ true → NamesItself log x link

-- what is reported of data at a moment is about the message that crosses there, and has its data: all that is after the
-- header where it goes out, and what the header announces where it comes in, on another link than 0. Other notices are
-- free
abbrev pub SendsNow : Moment → List Bool → Type 0
SendsNow (Crossed (crossing.Out m)) bits = AreData false m.text bits
SendsNow x bits = ⊥

abbrev pub TakesNow : Moment → List Bool → Type 0
TakesNow (Crossed (crossing.In m)) bits = ((m.flow.link.0 == 0) ≡ false) × AreData true m.text bits
TakesNow x bits = ⊥

abbrev pub ReportsData : Moment → Notice → Type 0
ReportsData x (notice.Sent socket bits) = SendsNow x bits
ReportsData x (notice.Arrived socket bits) = TakesNow x bits
ReportsData x n = Unit {0}
