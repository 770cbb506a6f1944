-- Messages of data on a link: one goes out, and one is taken.
use Rattle.pair_keeps_streams.proofs.Common.{◌≡◌, ℕ, ◌*◌, ◌==◌, Bool, true, false, if◌then◌else◌, List, [], ◌∷◌, ◌++◌, length, take, drop, Option, Some, refl, ap, sym, subst, ◌∙◌, arith, Host, header_of, data_bits, IsHeader, Command, DataHeader, Stream, Box, Empty, Waiting, Taken, data_of, data_text, sends_on, PairState, Bytes, next_of, Entry, Listener, Takes, IsTelling, KeepBox, is_out, ends_by, gone_by, received_at, sent_at, data_received, named, name_of}
use Rattle.std.proofs.Common.{◌+◌}
use Rattle.std.proofs.Math.Seq.{take-length, drop-append_seam}
use Rattle.std.proofs.lemmas.List.{length-append, length-take-le}
use Rattle.ncp_control.specs.DataHeader.{header_bits}
use Rattle.ncp_control.proofs.lemmas.{header_again}
use Rattle.stream_law.specs.Receivers as receivers
use Rattle.stream_law.specs.Senders as senders
use Rattle.host_pairs.specs.Allowed.{MaySend}
use Rattle.host_pairs.proofs.lemmas.{what_goes}
use Rattle.host_keeps_streams.specs.Histories.{Sends}
use Rattle.pair_keeps_streams.proofs.Joint.{Party, Post, Free, Lies, Fetched, IsPosted, Joint, receives, sends}
use Rattle.pair_keeps_streams.proofs.After.{Stepped, staying, keep_box}
use Rattle.pair_keeps_streams.proofs.Facts.{Facts, alone}
use Rattle.pair_keeps_streams.proofs.Streams.{Receiving, send_sent, take_received}
use Rattle.pair_keeps_streams.proofs.StepAsks.{calm, nothing_new, room_here, stepped}

-- ---- texts

-- the data after a header are read again
text_read : (h : DataHeader) (bits : List Bool) → IsHeader h → length bits ≡ data_bits h → data_of (data_bits h) (header_bits h ++ bits) ≡ bits
text_read h bits r e =
    let four : length (header_bits h) ≡ 40 = refl in
    let long : length (header_bits h ++ bits) ≡ 40 + data_bits h = length-append (header_bits h) bits ∙ ap (λ (n : ℕ). n + length bits) four ∙ ap (λ (n : ℕ). 40 + n) e in
    let all : take (40 + data_bits h) (header_bits h ++ bits) ≡ header_bits h ++ bits = ap (λ (n : ℕ). take n (header_bits h ++ bits)) (sym long) ∙ take-length (header_bits h ++ bits) in
    ap (λ (t : List Bool). drop 40 t) all ∙ ap (λ (n : ℕ). drop n (header_bits h ++ bits)) (sym four) ∙ drop-append_seam (header_bits h) bits

-- a program sends nothing after what a header announces
all_behind : (h : DataHeader) (bits : List Bool) → drop 40 (header_bits h ++ bits) ≡ bits
all_behind h bits = let four : length (header_bits h) ≡ 40 = refl in ap (λ (n : ℕ). drop n (header_bits h ++ bits)) (sym four) ∙ drop-append_seam (header_bits h) bits

text_posted : (c size count : ℕ) (bits : List Bool) → IsHeader (record { size = size; count = count }) → length bits ≡ size * count → IsPosted (Lies (data_text size count bits)) (Waiting c size bits)
text_posted c size count bits r e =
    (record { size = size; count = count }, header_again _ bits r (omega (arith, e)), refl, text_read _ bits r e, all_behind (record { size = size; count = count }) bits)

-- ---- moves

-- a message that waits is taken
pub taken_here : (link l : ℕ) (text : List Bool) → (l == link) ≡ true → (box : Box) → IsPosted (Lies text) box → (z : ℕ) × (bits : List Bool) × (c : ℕ) × (box ≡ Waiting c z bits) × (data_received link l text (header_of text) ≡ receivers.Take z bits ∷ [])
taken_here link l text e Empty i = absurd (i)
taken_here link l text e Taken i = absurd (i)
taken_here link l text e (Waiting c z bits) i =
    (z, bits, c, refl, ap (λ (o : Option DataHeader). data_received link l text o) i.1 ∙ rw e (ap (λ (n : ℕ). receivers.Take n (data_of (data_bits i.0) text) ∷ []) i.2 ∙ ap (λ (t : List Bool). receivers.Take z t ∷ []) i.3))

module _ (number other : ℕ → ℕ → ℕ → ℕ) (tells : IsTelling number) (others : IsTelling other) (facts : Facts number tells) (link : ℕ) (off : (link == 0) ≡ false) (x y : Stream) (gone : ℕ → ℕ → ℕ) (pending : List Command) (post : Post) (b : Party)
    (q : PairState) (j : Joint number other tells others link x y (staying gone q.entries pending post) b) (peer : Host) (listening : List Listener) where
  -- what the other sent lies there, also where it left since
  lies_there : (text : List Bool) → b.post ≡ Lies text → IsPosted (Lies text) x.box
  lies_there text e = by b.stays refl where
    by : (v : Bool) → b.stays ≡ v → IsPosted (Lies text) x.box
    by true s = subst (λ (p : Post). IsPosted p x.box) e (j.box_x.whole s)
    by false s = j.box_x.left s refl text e

  pub takes : (l : ℕ) (text : List Bool) → (l == link) ≡ true → b.post ≡ Lies text → Stepped number other tells others link x y (staying gone q.entries pending post) peer (Takes l text) q listening post (record b { post = Fetched })
  takes l text e lies =
      stepped number other tells others facts link off x y gone pending post b q j peer listening _ tt tt post _
      (alone number other tells others facts link off x y gone pending post b q j peer listening (Takes l text) tt tt tt Taken y.box
      (subst (λ (ms : List receivers.Move). Receiving ms x x.to_receiver Taken) (sym move.4) (take_received move.2 move.0 move.1 x move.3))
      (record { may = tt; heard = refl; box = refl })
      (λ s. tt)
      post Fetched (record { whole = λ s. tt; left = λ s t u f. absurd (cc) })
      (record { whole = λ s. j.box_y.whole refl; left = λ s t u f. absurd (cc) })) where
        move : (z : ℕ) × (bits : List Bool) × (c : ℕ) × (x.box ≡ Waiting c z bits) × (data_received link l text (header_of text) ≡ receivers.Take z bits ∷ [])
        move = taken_here link l text e x.box (lies_there text lies)

  -- bytes go out
  bytes_out : (stamp : ℕ) (e : Entry) (size count : ℕ) → next_of q ≡ Some (Bytes e size count) → IsHeader (record { size = size; count = count }) → sends_on link e ≡ true → (is_out link (Sends stamp e size count) q ≡ false → post ≡ Free)
      → Stepped number other tells others link x y (staying gone q.entries pending post) peer (Sends stamp e size count) q listening (Lies (data_text size count (take (size * count) e.bits))) b
  bytes_out stamp e size count next header on room =
      stepped number other tells others facts link off x y gone pending post b q j peer listening (Sends stamp e size count) next tt (Lies (data_text size count (take (size * count) e.bits))) b
      (alone number other tells others facts link off x y gone pending post b q j peer listening (Sends stamp e size count) next tt tt x.box (Waiting (named (name_of number gone) e) size (take (size * count) e.bits))
      (record { may = tt; heard = refl; box = refl })
      (rw on (send_sent (named (name_of number gone) e) size (take (size * count) e.bits) y empty))
      (λ s. rw on (tt, tt))
      (Lies (data_text size count (take (size * count) e.bits))) b.post
      (record { whole = j.box_x.whole; left = λ s t. j.box_x.left s refl })
      (record { whole = λ s. text_posted (named (name_of number gone) e) size count (take (size * count) e.bits) header (length-take-le (size * count) e.bits may.waits); left = λ s t u f. absurd (cc) })) where
        may : MaySend q e size count
        may = (what_goes q _ next).1

        keep : KeepBox (is_out link (Sends stamp e size count) q) (senders.Send (named (name_of number gone) e) size (take (size * count) e.bits) ∷ []) y.sender
        keep = subst (λ (v : Bool). KeepBox (is_out link (Sends stamp e size count) q) (if v then senders.Send (named (name_of number gone) e) size (take (size * count) e.bits) ∷ [] else []) y.sender) on
            (keep_box number other tells others link x y gone pending post b q j peer listening (Sends stamp e size count) next)

        empty : y.box ≡ Empty
        empty = room_here number other tells others facts link off x y gone pending post b q j peer listening (Sends stamp e size count) room keep.0

  pub bytes : (stamp : ℕ) (e : Entry) (size count : ℕ) → next_of q ≡ Some (Bytes e size count) → IsHeader (record { size = size; count = count }) → sends_on link e ≡ true → (is_out link (Sends stamp e size count) q ≡ false → post ≡ Free)
      → Joint number other tells others link (receives (received_at (name_of number gone) link (Sends stamp e size count) q listening) x) (sends (sent_at (name_of number gone) link (Sends stamp e size count) q listening y.sender) y)
      (staying (gone_by q.entries (ends_by peer (Sends stamp e size count) q listening) gone) (ends_by peer (Sends stamp e size count) q listening) pending (Lies (data_text size count (take (size * count) e.bits)))) b
  bytes stamp e size count next header on room =
      nothing_new number other tells others facts link off x y gone pending post b q j peer listening _ _ b refl (bytes_out stamp e size count next header on room)

  pub no_bytes : (stamp : ℕ) (e : Entry) (size count : ℕ) → next_of q ≡ Some (Bytes e size count) → sends_on link e ≡ false
      → Joint number other tells others link (receives (received_at (name_of number gone) link (Sends stamp e size count) q listening) x) (sends (sent_at (name_of number gone) link (Sends stamp e size count) q listening y.sender) y)
      (staying (gone_by q.entries (ends_by peer (Sends stamp e size count) q listening) gone) (ends_by peer (Sends stamp e size count) q listening) pending post) b
  no_bytes stamp e size count next away =
      nothing_new number other tells others facts link off x y gone pending post b q j peer listening _ post b refl
      (calm number other tells others facts link off x y gone pending post b q j peer listening (Sends stamp e size count) next tt tt tt (rw away tt) (λ s. rw away tt) true (rw away tt) (λ f. absurd (cc)))
