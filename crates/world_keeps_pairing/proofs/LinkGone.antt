-- What goes out of a pair, and links.
use Rattle.world_keeps_pairing.proofs.Common.{Host, Command, MayGo, Legal, Order, orders_of, desk_of, PairState, Listener, AreCommands, IsReadBack, untagged, MayAllGo, eqb-sym, untagged_is, AreSteps, Receiver, Sockets, Step, Who, Word, receiver, said_words, tagged, with_place, Message, Out, Pair, Agrees, message_on, data_away, NameFree, all_said, words_by, words_of}
use Rattle.std.proofs.Common.{◌≡◌, ℕ, ◌==◌, zero, suc, Bool, true, false, ◌&&◌, if◌then◌else◌, List, [], ◌∷◌, ◌++◌, map, drop, Some, refl, ap, sym, subst, ◌∙◌, take}
use Rattle.std.proofs.lemmas.List.{append-nil, take-append-drop}
use Rattle.host_pairs.specs.Parcels.{Parcel, commands_gone, link_for, link_of, next_of, pair_after, parcel_gone, text_for}
use Rattle.host_pairs.proofs.lemmas.{what_goes, all_gone_queue}
use Rattle.ncp_control.specs.declared.command.Command.TheVariants as command
use Rattle.host_pairs.specs.Parcels as parcel
use Rattle.pairing_law.proofs.lemmas.Seen as words
use Rattle.reset_law.specs.Stays as stay
use Rattle.world_keeps_pairing.proofs.Claims.{Claim, said_claims}
use Rattle.world_keeps_pairing.proofs.LinkCalls.{LinksOf}
use Rattle.world_keeps_pairing.proofs.LinkGoes.{Receives}
use Rattle.world_keeps_pairing.proofs.LinkOut.{Sends, commands_links}
use Rattle.world_keeps_pairing.proofs.Local.{Links, all_claims, links_changed}
use Rattle.world_keeps_pairing.proofs.Marks.{AllPairs, IsPair}
use Rattle.world_keeps_pairing.proofs.Messages.{are_same}
use Rattle.world_keeps_pairing.proofs.Programs.{AnRrp, AnRst, AText, Sort, sort_of}

pub some_commands : (n : ℕ) (cs : List Command) → AreCommands cs → AreCommands (take n cs)
some_commands zero cs h = tt
some_commands (suc n) [] h = tt
some_commands (suc n) (c ∷ cs) h = (h.0, some_commands n cs h.1)

-- ---- what a text says, in words

pub words_tagged : (who : Who) (place : ℕ) (text : List Bool) → words_of who (tagged place text ∷ []) ≡ words_by who place (orders_of text)
words_tagged who place text =
    append-nil (words_by who _ (orders_of (untagged (tagged place text)).1))
    ∙ ap (λ (parts : ℕ × List Bool). words_by who parts.0 (orders_of parts.1)) (untagged_is place text)

-- words on link 0
abbrev pub read_words : Who → ℕ → ℕ → List Bool → List Word
read_words who place link text = if link == 0 then words_by who place (orders_of text) else []

signal_words : (who : Who) (place link : ℕ) (text : List Bool) (orders : List Order) → orders_of text ≡ orders → words_by who place orders ≡ [] → (z : Bool) → [] ≡ (if z then words_by who place (orders_of text) else [])
signal_words who place link text orders e f true = sym (ap (words_by who place) e ∙ f)
signal_words who place link text orders e f false = refl

pub words_said : (a b : Host) (place link : ℕ) (text : List Bool) → words_of Receiver (stay.said_by a b 0 (Out a b link (with_place place (message_on link text)))) ≡ read_words Receiver place link text
words_said a b place link text = by (sort_of link text) where
  by : Sort link text → words_of Receiver (stay.said_by a b 0 (Out a b link (with_place place (message_on link text)))) ≡ read_words Receiver place link text
  by (AnRst z orders is) = ap (λ (m : Message). words_of Receiver (stay.said_by a b 0 (Out a b link (with_place place m)))) is ∙ signal_words Receiver place link text (Legal command.Rst ∷ []) orders refl (link == 0)
  by (AnRrp z orders is) = ap (λ (m : Message). words_of Receiver (stay.said_by a b 0 (Out a b link (with_place place m)))) is ∙ signal_words Receiver place link text (Legal command.Rrp ∷ []) orders refl (link == 0)
  by (AText is) =
      ap (λ (m : Message). words_of Receiver (stay.said_by a b 0 (Out a b link (with_place place m)))) is
      ∙ ap (λ (t : Bool). words_of Receiver (if t then tagged place text ∷ [] else [])) (ap (λ (t : Bool). t && 0 == link) (are_same a b) ∙ eqb-sym 0 link)
      ∙ zero_or (link == 0) where
        zero_or : (z : Bool) → words_of Receiver (if z then tagged place text ∷ [] else []) ≡ (if z then words_by Receiver place (orders_of text) else [])
        zero_or true = words_tagged Receiver place text
        zero_or false = refl

-- ---- a parcel

module _ (origin : ℕ → ℕ) (peer : Host) (stamp : ℕ) (taken : List Claim) where
  abbrev pub Went : List Word → List Step → PairState → Type 0
  Went ws xs q = NameFree ws xs × LinksOf (said_claims (all_said Receiver ws xs)) taken q

  pub parcel_links : (listening : List Listener) (q : PairState) (x : Parcel) (p : Pair) (xs : List Step) → Agrees q p → next_of q ≡ Some x → IsReadBack q x → AreCommands q.queue → AreSteps xs → AllPairs (said_words Receiver xs) → Receives origin q.entries q.queue xs
      → Sends origin origin peer stamp taken q.entries q.queue → ((s : Sockets) → IsPair s → MayAllGo (words.at s (read_words Receiver stamp (link_for x) (text_for q x))) (receiver s xs).end (receiver s xs).next) → LinksOf (said_claims xs) taken q
      → Went (read_words Receiver stamp (link_for x) (text_for q x)) xs (pair_after x q (parcel_gone peer stamp q.busy x (desk_of q listening)))
  parcel_links listening q parcel.Reset p xs a n back ok steps pairs r s may h = subst (λ (ws : List Word). NameFree ws xs × LinksOf (said_claims (all_said Receiver ws xs)) taken q) (sym (ap (words_by Receiver stamp) back)) (tt, h)
  parcel_links listening q parcel.Reply p xs a n back ok steps pairs r s may h = subst (λ (ws : List Word). NameFree ws xs × LinksOf (said_claims (all_said Receiver ws xs)) taken q) (sym (ap (words_by Receiver stamp) back)) (tt, h)
  parcel_links listening q (parcel.Bytes e size count) p xs a n back ok steps pairs r s may h =
      let go : MayGo q (parcel.Bytes e size count) = what_goes q _ n in
      let away : (link_of e.link == 0) ≡ false = data_away q e size count a.linked go.1.linked n in
      subst (λ (z : Bool). Went (if z then words_by Receiver stamp (orders_of (text_for q (parcel.Bytes e size count))) else []) xs (pair_after (parcel.Bytes e size count) q (parcel_gone peer stamp q.busy (parcel.Bytes e size count) (desk_of q listening)))) (sym away)
      (tt, links_changed (all_claims q.queue (said_claims xs)) taken _ _ _ (λ y. record { own = refl; foreign = refl; link = refl; mine = refl; partner = λ k. k; asked = λ k. k }) h)
  parcel_links listening q (parcel.Commands count) p xs a n back ok steps pairs r s may h =
      let cs : List Command = take count q.queue in
      let rest : List Command = drop count q.queue in
      let whole : take count q.queue ++ drop count q.queue ≡ q.queue = take-append-drop count q.queue in
      let read : words_by Receiver stamp (orders_of (text_for q (parcel.Commands count))) ≡ words_by Receiver stamp (map Legal (take count q.queue)) = ap (words_by Receiver stamp) back in
      let k : NameFree (words_by Receiver stamp (map Legal (take count q.queue))) xs
      × Links (all_claims (drop count q.queue) (said_claims (all_said Receiver (words_by Receiver stamp (map Legal (take count q.queue))) xs))) taken (commands_gone peer stamp (take count q.queue) (desk_of q listening)).entries =
      commands_links origin origin peer stamp taken cs rest _ xs (some_commands count _ ok) steps pairs
      (subst (λ (l : List Command). Receives origin q.entries l xs) (sym whole) r) (subst (λ (l : List Command). Sends origin origin peer stamp taken q.entries l) (sym whole) s)
      (λ t u. subst (λ (ws : List Word). MayAllGo (words.at t ws) (receiver t xs).end (receiver t xs).next) read (may t u))
      (subst (λ (l : List Command). Links (all_claims l (said_claims xs)) taken q.entries) (sym whole) h) in
      subst (λ (ws : List Word). Went ws xs (pair_after (parcel.Commands count) q (parcel_gone peer stamp q.busy (parcel.Commands count) (desk_of q listening)))) (sym read) (
        k.0,
        subst (λ (l : List Command). Links (all_claims (drop count l) (said_claims (all_said Receiver (words_by Receiver stamp (map Legal (take count q.queue))) xs))) taken (commands_gone peer stamp (take count q.queue) (desk_of q listening)).entries)
            (sym (all_gone_queue peer stamp cs _)) k.1,
      )
