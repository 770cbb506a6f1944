-- What is reported of data that come in, and that go out.
use Rattle.mixed_worlds.proofs.Common.{Host, same_host, PairState, ◌≡◌, ◌⊎◌, inl, inr, ℕ, ◌*◌, ◌==◌, Bool, true, false, if◌then◌else◌, List, [], ◌∷◌, ◌++◌, find, take, Option, Some, None, refl, ap, sym, subst, ◌∙◌, HostMessage, data_bits, header_of, is_ready, DeskState, desk_of, Entry, Notice, NcpState, pair_with, Peer, DataHeader}
use Rattle.host_pairs.specs.Parcels.{bits_gone, may_send_on, pair_after, parcel_gone, Parcel, link_of}
use Rattle.host_pairs.specs.Entries.{changed_first, is_ending, is_open, receives_on}
use Rattle.host_keeps_pairing.proofs.lemmas.{put}
use Rattle.host_pairs.specs.Control.{ERRONEOUS}
use Rattle.host_pairs.specs.Data.{data_of, data_taken, arrived, arrived_if, data_found, is_acceptable, text_faulted}
use Rattle.host_pairs.specs.Turn.{TurnState, if_ready, message_taken, with_desk}
use Rattle.sockets.specs.Accepting.{after_turn, turn_of, accepted}
use Rattle.sockets.specs.Sending.{next_in, offered_by, offered}
use Rattle.host_pairs.specs.Commands.{Ending, Open, Unconnected}
use Rattle.interface.specs.declared.crossing.Inbound.TheVariants as inbound
use Rattle.host_pairs.specs.Commands as commands
use Rattle.host_pairs.specs.Parcels as parcel
use Rattle.host_pairs.specs.declared.notice.Notice.TheVariants as notice

-- an open end has the link of what came, and one notice is of all its data
pub record Takes (link : ℕ) (text : List Bool) (es : List Entry) (ns : List Notice) : Type 0 where
  pub end : Entry
  pub header : DataHeader
  pub found : find (receives_on link) es ≡ Some end
  pub opened : is_open end ≡ true
  pub read : header_of text ≡ Some header
  pub is : ns ≡ notice.Arrived end.own (data_of (data_bits header) text) ∷ []

abbrev pub TakesIf : ℕ → List Bool → List Entry → List Notice → Type 0
TakesIf link text es ns = (ns ≡ []) ⊎ Takes link text es ns

desk_takes : (link : ℕ) (text : List Bool) (d : DeskState) → d.notices ≡ []
    → TakesIf link text d.entries (data_taken link text d).notices
desk_takes link text d none = by (find (receives_on link) d.entries) refl where
  by : (o : Option Entry) → find (receives_on link) d.entries ≡ o
      → TakesIf link text d.entries (data_found link text (commands.found_in o) d).notices
  by None f = inl none
  by (Some e) f = opened (is_open e) (is_ending e) refl where
    opened : (a b : Bool) → is_open e ≡ a
        → TakesIf link text d.entries
        (data_found link text (if a then Open e else (if b then Ending else Unconnected)) d).notices
    opened false true g = inl none
    opened false false g = inl none
    opened true b g = read (header_of text) refl where
      read : (o : Option DataHeader) → header_of text ≡ o
          → TakesIf link text d.entries (arrived_if link e text o d).notices
      read None r = inl none
      read (Some k) r = fits (is_acceptable e k) where
        fits : (c : Bool)
            → TakesIf link text d.entries
            (if c then arrived link e (data_bits k) text d else text_faulted ERRONEOUS text d).notices
        fits false = inl none
        fits true = inr (record {
          end = e;
          header = k;
          found = f;
          opened = g;
          read = r;
          is = ap (λ (ns : List Notice). ns ++ notice.Arrived e.own (data_of (data_bits k) text) ∷ []) none;
        })

turn_takes : (link : ℕ) (text : List Bool) (t : TurnState) → t.notices ≡ []
    → TakesIf link text t.pair.entries (if_ready (data_taken link text) t).notices
turn_takes link text t none = by (is_ready t.pair.phase) where
  by : (b : Bool)
      → TakesIf link text t.pair.entries
      (if b then with_desk t (data_taken link text (desk_of t.pair t.listening)) else t).notices
  by false = inl none
  by true =
      subst
      (λ (ns : List Notice). TakesIf link text t.pair.entries (ns ++ (data_taken link text
      (desk_of t.pair t.listening)).notices)) (sym none) (desk_takes link text (desk_of t.pair t.listening) refl)

pub message_takes : (s : NcpState) (m : HostMessage) (stamp : ℕ) → (m.flow.link.0 == 0) ≡ false
    → TakesIf m.flow.link.0 m.text (pair_with m.flow.source s.peers).entries
    (accepted s (inbound.Message m) stamp).1
unfolding accepted
message_takes s m stamp off = by (same_host s.own m.flow.destination) where
  turn : (b : Bool) → (m.flow.link.0 == 0) ≡ b
      → TakesIf m.flow.link.0 m.text (pair_with m.flow.source s.peers).entries
      (message_taken m.flow.source stamp m.flow.link.0 m.text (turn_of s m.flow.source)).notices
  turn true e = absurd (let clash : true ≡ false = sym e ∙ off in cc)
  turn false e = rw e (turn_takes m.flow.link.0 m.text (turn_of s m.flow.source) refl)

  by : (b : Bool)
      → TakesIf m.flow.link.0 m.text (pair_with m.flow.source s.peers).entries
      (if b then after_turn s m.flow.source (message_taken m.flow.source stamp m.flow.link.0 m.text
      (turn_of s m.flow.source)) else (s, [])).1
  by true = turn (m.flow.link.0 == 0) refl
  by false = inl refl

pub bytes_told : (s : NcpState) (stamp : ℕ) (g : Peer) (e : Entry) (size count : ℕ)
    → next_in s.peers ≡ Some (g, parcel.Bytes e size count)
    → (offered s stamp).1 ≡ notice.Sent e.own (take (size * count) e.bits) ∷ []
unfolding offered
bytes_told s stamp g e size count next = ap (λ (o : Option (Peer × Parcel)). (offered_by s stamp o).1) next

-- what is left of the ends with a peer where bytes go out to it
pub bytes_left : (s : NcpState) (stamp : ℕ) (g : Peer) (e : Entry) (size count : ℕ) (p : Host) → g.host ≡ p
    → next_in s.peers ≡ Some (g, parcel.Bytes e size count)
    → (pair_with p (offered s stamp).0.peers).entries
    ≡ changed_first (may_send_on g.pair.busy (link_of e.link)) (bits_gone (size * count)) g.pair.entries
unfolding offered
bytes_left s stamp g e size count p to next =
    subst
    (λ (h : Host). (pair_with h (offered_by s stamp (next_in s.peers)).0.peers).entries
    ≡ changed_first (may_send_on g.pair.busy (link_of e.link)) (bits_gone (size * count)) g.pair.entries) to
    (ap (λ (o : Option (Peer × Parcel)). (pair_with g.host (offered_by s stamp o).0.peers).entries) next
    ∙ ap (λ (q : PairState). q.entries)
    (put g.host
    (pair_after (parcel.Bytes e size count) g.pair
    (parcel_gone g.host stamp g.pair.busy (parcel.Bytes e size count) (desk_of g.pair s.listening))) s.peers))
