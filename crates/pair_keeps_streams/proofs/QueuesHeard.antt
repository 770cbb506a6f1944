-- What a command of the peer makes a program queue is what the moves by it say.
use Rattle.pair_keeps_streams.proofs.Common.{◌≡◌, ℕ, suc, ◌==◌, ◌&&◌, nat_le, Bool, true, false, if◌then◌else◌, List, [], ◌∷◌, ◌++◌, map, filter, find, Option, Some, None, refl, ap, sym, subst, ◌∙◌, inl, inr, append-nil, eqb-true, is_receive_socket, Command, Word, Sender, Found, Unconnected, Ending, Open, all_taken, at_end, given_back, granted, gvb_taken, interrupted, receiver_on, ret_taken, sender_on, DeskState, changed_first, entry_at, is_at, is_open, receives_on, refused_end, sends_on, Entry, IsSender, first_is, leaving_shut, plain, one, counted, has_said, said_of, with_closing, sent_words, receiver_word, sender_word}
use Rattle.std.proofs.lemmas.List.Folds.{find-append}
use Rattle.std.specs.Option.{option_or}
use Rattle.ncp_control.specs.Allocation as counters
use Rattle.ncp_control.specs.declared.allocation.Allocation.{Allocation}
use Rattle.ncp_control.specs.declared.command.Command.TheVariants as command
use Rattle.stream_law.specs.Words as words
use Rattle.stream_law.specs.Senders as senders
use Rattle.host_pairs.specs.Commands.{found_in, returned}
use Rattle.host_keeps_streams.specs.Ends.{AreSender, HasSender, NoneOpen}
use Rattle.host_keeps_streams.proofs.lemmas.{closed_found, none_is, open_found, open_same_senders as open_same, unopened}
use Rattle.pair_keeps_streams.proofs.Queues.{Told, changed_kept, closing_elsewhere, closing_there, is_said, kept_same, none_at, one_told, said_after, silent}
use Rattle.pair_keeps_streams.proofs.QueuesAsked.{unsaid, wrong_told}

-- ---- a request that is refused

or_none : (o : Option Entry) → is_said o (option_or o None) ≡ has_said o
or_none None = refl
or_none (Some e) = refl

module _ (number : ℕ → ℕ → ℕ → ℕ) (link : ℕ) (gone : ℕ → ℕ → ℕ) (es : List Entry) (queue : List Command) (own foreign stamp : ℕ) (none : entry_at own foreign es ≡ None) where
  refused_counts : (x y : ℕ) → (b : Bool) → is_at x y (refused_end own foreign stamp) ≡ b
      → counted (is_said (entry_at x y es) (option_or (entry_at x y es) (entry_at x y (refused_end own foreign stamp ∷ [])))) (gone x y) ≡ with_closing (command.Cls own foreign) (said_of gone es) x y
  refused_counts x y true a =
      let off : entry_at x y es ≡ None = none_at x y (refused_end own foreign stamp) es a none in
      let there : entry_at x y (refused_end own foreign stamp ∷ []) ≡ Some (refused_end own foreign stamp) = (rw a refl) in
      let left : counted (is_said (entry_at x y es) (option_or (entry_at x y es) (entry_at x y (refused_end own foreign stamp ∷ [])))) (gone x y) ≡ suc (gone x y)
      = ap (λ (o : Option Entry). counted (is_said o (option_or o (entry_at x y (refused_end own foreign stamp ∷ [])))) (gone x y)) off
      ∙ ap (λ (p : Option Entry). counted (is_said None (option_or None p)) (gone x y)) there in
      left ∙ sym (closing_there (refused_end own foreign stamp) (said_of gone es) x y a ∙ ap (λ (o : Option Entry). suc (counted (has_said o) (gone x y))) off)
  refused_counts x y false a =
      let there : entry_at x y (refused_end own foreign stamp ∷ []) ≡ None = (rw a refl) in
      ap (λ (p : Option Entry). counted (is_said (entry_at x y es) (option_or (entry_at x y es) p)) (gone x y)) there ∙ ap (λ (v : Bool). counted v (gone x y)) (or_none (entry_at x y es))
      ∙ sym (closing_elsewhere (refused_end own foreign stamp) (said_of gone es) x y a)

  refused_told : (asked : ℕ → Bool) (rs ss : List Word) → map plain rs ≡ receiver_word number link asked (said_of gone es) (command.Cls own foreign) → map plain ss ≡ sender_word number link (said_of gone es) (command.Cls own foreign)
      → Told number link gone es queue (es ++ refused_end own foreign stamp ∷ []) (queue ++ command.Cls own foreign ∷ []) asked rs ss
  refused_told asked rs ss r s = record {
    new = command.Cls own foreign ∷ [];
    adds = refl;
    counts = λ x y. said_after gone es (es ++ refused_end own foreign stamp ∷ []) x y
        ∙ ap (λ (o : Option Entry). counted (is_said (entry_at x y es) o) (gone x y)) (find-append (is_at x y) es (refused_end own foreign stamp ∷ []))
        ∙ refused_counts x y _ refl;
    received = r ∙ sym (append-nil (receiver_word number link asked (said_of gone es) (command.Cls own foreign)));
    sent = s ∙ sym (append-nil (sender_word number link (said_of gone es) (command.Cls own foreign)));
  }

  -- of a receiving end: no word, since it was never asked for
  pub refused_receiver : (asked : ℕ → Bool) → is_receive_socket own ≡ true → asked (number own foreign (gone own foreign)) ≡ false
      → Told number link gone es queue (es ++ refused_end own foreign stamp ∷ []) (queue ++ command.Cls own foreign ∷ []) asked [] []
  refused_receiver asked even new =
      let never : asked (number own foreign (said_of gone es own foreign)) ≡ false = ap (λ (k : ℕ). asked (number own foreign k)) (unsaid number link gone asked own foreign es none) ∙ new in
      refused_told asked [] [] (rw (even, never) refl) (rw even refl)

  -- of a sending end
  pub refused_sender : (asked : ℕ → Bool) → is_receive_socket own ≡ false
      → Told number link gone es queue (es ++ refused_end own foreign stamp ∷ []) (queue ++ command.Cls own foreign ∷ []) asked [] (words.Cls (number own foreign (gone own foreign)) ∷ [])
  refused_sender asked odd =
      refused_told asked [] _ (rw odd refl)
      (rw odd (ap (λ (k : ℕ). words.Cls (number own foreign k) ∷ []) (sym (unsaid number link gone asked own foreign es none))))

-- ---- what the sender returns

module _ (name : ℕ → ℕ → ℕ) (link m n : ℕ) (es : List Entry) (s : Sender) (P : Found → Option Word → Type 0) (unconnected : P Unconnected None) (ending : P Ending None)
    (opened : (x : Entry) (c : ℕ) → P (Open x) (Some (words.Ret c (counters.share x.allocation.messages m) (counters.share x.allocation.bits n)))) where
  shut_returns : (c : ℕ) → senders.is_open c s ≡ false → senders.returns m n (Some c) s ≡ None
  shut_returns c e = rw e refl

  open_returns : (c : ℕ) → senders.is_open c s ≡ true → senders.returns m n (Some c) s ≡ Some (words.Ret c (counters.share s.allocation.messages m) (counters.share s.allocation.bits n))
  open_returns c e = rw e refl

  none_returns : NoneOpen s → (o : Option ℕ) → s.end ≡ o → senders.returns m n o s ≡ None
  none_returns none None e = refl
  none_returns none (Some c) e = shut_returns c (unopened s none c e)

  one_end : (x : Entry) → IsSender (name x.own x.foreign) x s → (v : Bool) → is_open x ≡ v → P (found_in (Some x)) (senders.returns m n s.end s)
  one_end x i true o =
      let said : senders.returns m n s.end s ≡ Some (words.Ret (name x.own x.foreign) (counters.share x.allocation.messages m) (counters.share x.allocation.bits n))
      = ap (λ (p : Option ℕ). senders.returns m n p s) i.end ∙ open_returns _ (open_same _ x s i ∙ o)
      ∙ ap (λ (a : Allocation). Some (words.Ret (name x.own x.foreign) (counters.share a.messages m) (counters.share a.bits n))) i.allocation in
      open_found (λ w. P w (senders.returns m n s.end s)) x o (subst (λ (w : Option Word). P (Open x) w) (sym said) (opened x _))
  one_end x i false o =
      let said : senders.returns m n s.end s ≡ None = ap (λ (p : Option ℕ). senders.returns m n p s) i.end ∙ shut_returns _ (open_same _ x s i ∙ o) in
      subst (λ (w : Option Word). P (found_in (Some x)) w) (sym said) (closed_found (λ w. P w None) unconnected ending x o)

  returns_by : (xs : List Entry) → filter (sends_on link) es ≡ xs → AreSender name xs s → P (found_in (find (sends_on link) es)) (senders.returns m n s.end s)
  returns_by [] f h =
      subst (λ (o : Option Entry). P (found_in o) (senders.returns m n s.end s)) (sym (none_is (sends_on link) es f)) (subst (λ (w : Option Word). P Unconnected w) (sym (none_returns h s.end refl)) unconnected)
  returns_by (x ∷ []) f (inl i) = subst (λ (o : Option Entry). P (found_in o) (senders.returns m n s.end s)) (sym (first_is (sends_on link) x [] es f)) (one_end x i _ refl)
  returns_by (x ∷ []) f (inr l) =
      subst (λ (o : Option Entry). P (found_in o) (senders.returns m n s.end s)) (sym (first_is (sends_on link) x [] es f))
      (subst (λ (w : Option Word). P (found_in (Some x)) w) (sym (none_returns l.none s.end refl)) (closed_found (λ w. P w None) unconnected ending x (leaving_shut x s l)))
  returns_by (x ∷ y ∷ ys) f h = absurd h

  returns_at : HasSender name link es s → P (found_in (find (sends_on link) es)) (senders.returns m n s.end s)
  returns_at h = returns_by _ refl h

-- ---- commands

module _ (number : ℕ → ℕ → ℕ → ℕ) (link : ℕ) (gone : ℕ → ℕ → ℕ) (d : DeskState) (asked : ℕ → Bool) where
  abbrev pub HeardTold : DeskState → List Word → List Word → Type 0
  HeardTold e rs ss = Told number link gone d.entries d.queue e.entries e.queue asked rs ss

  same_told : (rs ss : List Word) → rs ≡ [] → ss ≡ [] → HeardTold d rs ss
  same_told rs ss r s = silent number link gone d.entries d.queue d.entries asked (kept_same _) rs ss r s

  -- about a link
  end_told : (c : Command) (change : Entry → DeskState → DeskState) (rs ss : List Word) → rs ≡ [] → ss ≡ [] → ((e : Entry) → HeardTold (change e d) rs ss) → (w : Found) → HeardTold (at_end c change w d) rs ss
  end_told c change rs ss r s told Unconnected = wrong_told number link gone asked _ _ _ _ rs ss r s
  end_told c change rs ss r s told Ending = same_told rs ss r s
  end_told c change rs ss r s told (Open e) = told e

  pub all_told : (l m n : ℕ) (rs ss : List Word) → rs ≡ [] → ss ≡ [] → HeardTold (at_end (command.All l m n) (all_taken l m n) (sender_on l d) d) rs ss
  all_told l m n rs ss r s =
      end_told (command.All l m n) (all_taken l m n) rs ss r s (λ e. silent number link gone d.entries d.queue (changed_first (sends_on l) (granted m n) d.entries) asked
      (changed_kept _ _ (record { own = λ x. refl; foreign = λ x. refl }) _ (λ x f. refl)) rs ss r s) (sender_on l d)

  ret_by : (l m n : ℕ) (rs ss : List Word) → rs ≡ [] → ss ≡ [] → (e : Entry) → (v : Bool) → (nat_le m e.allocation.messages && nat_le n e.allocation.bits) ≡ v → HeardTold (ret_taken l m n e d) rs ss
  ret_by l m n rs ss r s e true t =
      rw t (silent number link gone d.entries d.queue (changed_first (receives_on l) (returned m n) d.entries) asked
      (changed_kept _ _ (record { own = λ x. refl; foreign = λ x. refl }) _ (λ x f. refl)) rs ss r s)
  ret_by l m n rs ss r s e false t = rw t (wrong_told number link gone asked _ _ _ _ rs ss r s)

  pub ret_told : (l m n : ℕ) (rs ss : List Word) → rs ≡ [] → ss ≡ [] → HeardTold (at_end (command.Ret l m n) (ret_taken l m n) (receiver_on l d) d) rs ss
  ret_told l m n rs ss r s = end_told (command.Ret l m n) (ret_taken l m n) rs ss r s (λ e. ret_by l m n rs ss r s e (nat_le m e.allocation.messages && nat_le n e.allocation.bits) refl) (receiver_on l d)

  pub interrupt_told : (c : Command) (w : Found) → HeardTold (at_end c interrupted w d) [] []
  interrupt_told c w = end_told c interrupted [] [] refl refl (λ e. same_told [] [] refl refl) w

  -- a GVB at the end on the link is answered by the law too
  returned_told : (l m n : ℕ) (e : Entry) (ss : List Word) → map plain ss ≡ (if l == link then words.Ret 0 (counters.share e.allocation.messages m) (counters.share e.allocation.bits n) ∷ [] else []) → HeardTold (gvb_taken l m n e d) [] ss
  returned_told l m n e ss s =
      one_told number link gone d.entries d.queue (changed_first (sends_on l) (given_back m n) d.entries) asked (changed_kept _ _ (record { own = λ x. refl; foreign = λ x. refl }) _ (λ x f. refl))
      _ (λ n x y. refl) [] ss refl s

  gvb_by : (name : ℕ → ℕ → ℕ) (said l m n : ℕ) (s : Sender) → HasSender name link d.entries s → (v : Bool) → (l == link) ≡ v
      → HeardTold (at_end (command.Gvb l m n) (gvb_taken l m n) (sender_on l d) d) [] (sent_words (if v then senders.Hear (words.Gvb said m n) ∷ [] else []) s)
  gvb_by name said l m n s h false t =
      end_told (command.Gvb l m n) (gvb_taken l m n) [] [] refl refl (λ e. returned_told l m n e [] (ap (λ (v : Bool). if v then words.Ret 0 (counters.share e.allocation.messages m) (counters.share e.allocation.bits n) ∷ [] else []) (sym t))) (sender_on l d)
  gvb_by name said l m n s h true t =
      let same : l ≡ link = eqb-true l link t in
      subst (λ (k : ℕ). HeardTold (at_end (command.Gvb l m n) (gvb_taken l m n) (found_in (find (sends_on k) d.entries)) d) [] (sent_words (senders.Hear (words.Gvb said m n) ∷ []) s)) (sym same)
      (returns_at name link m n d.entries s (λ w o. HeardTold (at_end (command.Gvb l m n) (gvb_taken l m n) w d) [] (one o ++ []))
      (wrong_told number link gone asked _ _ _ _ [] [] refl refl) (same_told [] [] refl refl)
      (λ x c. returned_told l m n x _ (ap (λ (v : Bool). if v then words.Ret 0 (counters.share x.allocation.messages m) (counters.share x.allocation.bits n) ∷ [] else []) (sym t))) h)

  pub gvb_told : (name : ℕ → ℕ → ℕ) (said l m n : ℕ) (s : Sender) → HasSender name link d.entries s
      → HeardTold (at_end (command.Gvb l m n) (gvb_taken l m n) (sender_on l d) d) [] (sent_words (if l == link then senders.Hear (words.Gvb said m n) ∷ [] else []) s)
  gvb_told name said l m n s h = gvb_by name said l m n s h _ refl

  pub echo_told : (octet : ℕ) → Told number link gone d.entries d.queue d.entries (d.queue ++ command.Erp octet ∷ []) asked [] []
  echo_told octet = one_told number link gone d.entries d.queue d.entries asked (kept_same _) _ (λ n x y. refl) [] [] refl refl

  pub quiet_told : HeardTold d [] []
  quiet_told = same_told [] [] refl refl
