-- The first of the words that are under way, and what a host makes of the command that says it.
use Rattle.pair_keeps_streams.proofs.Common.{◌≡◌, ℕ, ◌==◌, ◌&&◌, not, Bool, true, false, if◌then◌else◌, List, [], ◌∷◌, ◌++◌, map, Option, Some, None, is_some, refl, ap, sym, subst, ◌∙◌, eq-eqb, ne_eqb, Word, Rts, Str, All, Gvb, Ret, Cls, Sender, some_is, changed_at, closed_by_partner, is_receiving, receives_on, Closing, Entry, Listener, received_close, received_open, sent_open, answers_str, closes, closes_on, cls_received, hears_rts, of_end, rts_sent, str_received, named, plain, counted, has_heard}
use Rattle.stream_law.specs.Receivers as receivers
use Rattle.stream_law.specs.Senders as senders
use Rattle.host_pairs.specs.declared.entry.Closing.TheVariants as closing
use Rattle.host_keeps_streams.specs.Moves.{cls_sent}
use Rattle.pair_keeps_streams.proofs.Streams.{AreQuiet, AreQuietSent, HearOne, HearOneSent}
use Rattle.pair_keeps_streams.proofs.StepAsks.{if_quiet, open_quiet, open_quiet_sent}

-- ---- the first of the words

abbrev first_or : Word → List Word → Word
first_or d [] = d
first_or d (w ∷ ws) = w

abbrev others_of : List Word → List Word
others_of [] = []
others_of (w ∷ ws) = ws

pub record Split (ws : List Word) (v : Word) (vs : List Word) : Type 0 where
  pub first : Word
  pub rest : List Word
  pub is : ws ≡ first ∷ rest
  pub same : plain first ≡ v
  pub behind : map plain rest ≡ vs

pub split : (ws : List Word) (v : Word) (vs : List Word) → map plain ws ≡ v ∷ vs → Split ws v vs
split [] v vs e = absurd (cc)
split (w ∷ ws) v vs e = record { first = w; rest = ws; is = refl; same = ap (first_or v) e; behind = ap others_of e }

pub plain_rts : (w : Word) (c : ℕ) → plain w ≡ Rts c → w ≡ Rts c
plain_rts (Rts k) c e = e
plain_rts w c e = absurd (cc)

pub plain_str : (w : Word) (c z : ℕ) → plain w ≡ Str c z → w ≡ Str c z
plain_str (Str k y) c z e = e
plain_str w c z e = absurd (cc)

pub plain_cls : (w : Word) (c : ℕ) → plain w ≡ Cls c → w ≡ Cls c
plain_cls (Cls k) c e = e
plain_cls w c e = absurd (cc)

-- the connection in which it was said
abbrev with_number : ℕ → Word → Word
with_number k (Rts c) = Rts c
with_number k (Str c z) = Str c z
with_number k (All c m n) = All k m n
with_number k (Gvb c m n) = Gvb k m n
with_number k (Ret c m n) = Ret k m n
with_number k (Cls c) = Cls c

pub plain_all : (w : Word) (m n : ℕ) → plain w ≡ All 0 m n → (k : ℕ) × (w ≡ All k m n)
plain_all (All k a b) m n e = (k, ap (with_number k) e)
plain_all w m n e = absurd (cc)

pub plain_gvb : (w : Word) (m n : ℕ) → plain w ≡ Gvb 0 m n → (k : ℕ) × (w ≡ Gvb k m n)
plain_gvb (Gvb k a b) m n e = (k, ap (with_number k) e)
plain_gvb w m n e = absurd (cc)

pub plain_ret : (w : Word) (m n : ℕ) → plain w ≡ Ret 0 m n → (k : ℕ) × (w ≡ Ret k m n)
plain_ret (Ret k a b) m n e = (k, ap (with_number k) e)
plain_ret w m n e = absurd (cc)

-- ---- what each makes of it

-- an end has heard no CLS
pub none_heard : (o : Option Entry) (g : ℕ) → ((e : Entry) → o ≡ Some e → e.partner_closed ≡ false) → counted (has_heard o) g ≡ g
none_heard None g f = refl
none_heard (Some e) g f = let off : e.partner_closed ≡ false = f e refl in rw off refl

pub rts_hears : (c : ℕ) (l : Option Listener) (o : Option Entry) → ((e : Entry) → o ≡ Some e → e.partner ≡ None) → HearOneSent (Rts c) (rts_sent true c l o)
rts_hears c None None f = (refl, (tt, tt))
rts_hears c (Some l) None f = (tt, (refl, tt))
rts_hears c l (Some e) f =
    let first : is_some e.partner ≡ false = ap is_some (f e refl) in
    subst (λ (v : Bool). HearOneSent (Rts c) (if v then [] else hears_rts true c ++ sent_open (true && is_some e.asked) c)) (sym first) (refl, open_quiet_sent _ c)

pub rts_quiet : (c : ℕ) (l : Option Listener) (o : Option Entry) → AreQuietSent (rts_sent false c l o)
rts_quiet c None None = (tt, tt)
rts_quiet c (Some l) None = (tt, tt)
rts_quiet c l (Some e) = by (is_some e.partner) where
  by : (v : Bool) → AreQuietSent (if v then [] else hears_rts false c ++ sent_open (false && is_some e.asked) c)
  by true = tt
  by false = tt

answers_quiet : (link c : ℕ) (l : Option Listener) (o : Option ℕ) → AreQuiet (answers_str link c l o)
answers_quiet link c None o = tt
answers_quiet link c (Some l) None = tt
answers_quiet link c (Some l) (Some other) = if_quiet (other == link) (receivers.Ask c ∷ []) (tt, tt)

pub str_hears : (link c z : ℕ) (l : Option Listener) (free : Option ℕ) (o : Option Entry) → ((e : Entry) → o ≡ Some e → e.partner ≡ None) → HearOne (Str c z) (str_received link c z l free o)
str_hears link c z l free None f = (refl, answers_quiet link c l free)
str_hears link c z l free (Some e) f =
    let first : is_some e.partner ≡ false = ap is_some (f e refl) in
    subst (λ (v : Bool). HearOne (Str c z) (if v then [] else receivers.Hear (Str c z) ∷ received_open (receives_on link e && is_some e.asked) c)) (sym first) (refl, open_quiet _ c)

close_quiet : (v : Closing) (c : ℕ) → AreQuiet (received_close v c)
close_quiet closing.Queued c = tt
close_quiet v c = (tt, tt)

closes_on_quiet : (link c : ℕ) (e : Entry) → AreQuiet (closes_on link c e)
closes_on_quiet link c e = if_quiet (receives_on link e) (received_close e.closing c) (close_quiet e.closing c)

-- ---- a CLS

module _ (link c : ℕ) (e : Entry) (unheard : e.partner_closed ≡ false) where
  pub cls_hears : is_receiving e ≡ true → HearOne (Cls c) (cls_received link c (Some e))
  cls_hears r =
      let first : (is_receiving e && not e.partner_closed) ≡ true = rw (r, unheard) refl in
      subst (λ (v : Bool). HearOne (Cls c) (if v then receivers.Hear (Cls c) ∷ closes_on link c e else [])) (sym first) (refl, closes_on_quiet link c e)

  pub cls_deaf : is_receiving e ≡ false → cls_received link c (Some e) ≡ []
  cls_deaf r = rw r refl

module _ (name : ℕ → ℕ → ℕ) (busy : List ℕ) (own foreign : ℕ) (es : List Entry) (s : Sender) (e : Entry) (unheard : e.partner_closed ≡ false) where
  pub sent_own : is_receiving e ≡ true → cls_sent name busy own foreign es s (Some e) ≡ closes name busy (changed_at own foreign closed_by_partner es)
  sent_own r = rw (unheard, r) refl

  sent_foreign : is_receiving e ≡ false → cls_sent name busy own foreign es s (Some e) ≡ of_end (named name e) s.end (senders.Hear (Cls (named name e)) ∷ []) ++ closes name busy (changed_at own foreign closed_by_partner es)
  sent_foreign r = rw (unheard, r) refl

  end_here : (c : ℕ) (o : Option ℕ) → o ≡ Some c → of_end c o (senders.Hear (Cls c) ∷ []) ≡ senders.Hear (Cls c) ∷ []
  end_here c o e = by o e where
    by : (o : Option ℕ) → o ≡ Some c → of_end c o (senders.Hear (Cls c) ∷ []) ≡ senders.Hear (Cls c) ∷ []
    by None e = absurd (cc)
    by (Some k) e = let t : (k == c) ≡ true = eq-eqb k c (some_is k c e) in rw t refl

  end_away : (c : ℕ) (o : Option ℕ) → (o ≡ Some c → ⊥) → of_end c o (senders.Hear (Cls c) ∷ []) ≡ []
  end_away c None f = refl
  end_away c (Some k) f = let t : (k == c) ≡ false = ne_eqb k c (λ e. f (ap (λ (n : ℕ). Some n) e)) in rw t refl

  pub sent_here : is_receiving e ≡ false → s.end ≡ Some (named name e) → cls_sent name busy own foreign es s (Some e) ≡ senders.Hear (Cls (named name e)) ∷ closes name busy (changed_at own foreign closed_by_partner es)
  sent_here r end = sent_foreign r ∙ ap (λ (ms : List senders.Move). ms ++ closes name busy (changed_at own foreign closed_by_partner es)) (end_here _ s.end end)

  pub sent_away : is_receiving e ≡ false → (s.end ≡ Some (named name e) → ⊥) → cls_sent name busy own foreign es s (Some e) ≡ closes name busy (changed_at own foreign closed_by_partner es)
  sent_away r f = sent_foreign r ∙ ap (λ (ms : List senders.Move). ms ++ closes name busy (changed_at own foreign closed_by_partner es)) (end_away _ s.end f)
