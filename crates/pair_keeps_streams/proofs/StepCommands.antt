-- Each command of the other host is heard, and is gone from what is under way.
use Rattle.pair_keeps_streams.proofs.Common.{◌≡◌, ℕ, ◌==◌, true, false, List, [], ◌∷◌, map, refl, ap, sym, subst, ◌∙◌, Host, IsCommand, Command, Sender, Stream, All, Gvb, entry_at, is_busy, PairState, Listener, FindsFree, Hears, IsTelling, KeepBox, received_at, sent_at, name_of, plain, with_closing, closings_in, heard_from, receiver_words, sender_words}
use Rattle.ncp_control.specs.declared.command.Command.TheVariants as command
use Rattle.stream_law.specs.Receivers as receivers
use Rattle.stream_law.specs.Senders as senders
use Rattle.pair_keeps_streams.proofs.Joint.{IsPaired, IsFirst, Party, Post, Free, Line, Joint, heard_by, said_by}
use Rattle.pair_keeps_streams.proofs.After.{Stepped, staying, keep_box}
use Rattle.pair_keeps_streams.proofs.Facts.{Facts, later, any}
use Rattle.pair_keeps_streams.proofs.Granted.{AreKept, cls_none, if_none, none_kept}
use Rattle.pair_keeps_streams.proofs.Spoken.{closings_same, receiver_same, sender_same}
use Rattle.pair_keeps_streams.proofs.Streams.{Receiving, Sending, quiet_received, quiet_sent}
use Rattle.pair_keeps_streams.proofs.StepHears.{IsHeard, Found, rts_free, rts_found, rts_kept, str_found, all_found, gvb_found, ret_found, cls_found}
use Rattle.pair_keeps_streams.proofs.StepAsks.{stepped}

module _ (number other : ℕ → ℕ → ℕ → ℕ) (tells : IsTelling number) (others : IsTelling other) (facts : Facts number tells) (same : (own foreign g : ℕ) → other own foreign g ≡ number foreign own g) (link : ℕ) (off : (link == 0) ≡ false)
    (x y : Stream) (gone : ℕ → ℕ → ℕ) (pending : List Command) (post : Post) (b : Party)
    (q : PairState) (j : Joint number other tells others link x y (staying gone q.entries pending post) b) (peer : Host) (listening : List Listener) (stamp : ℕ) (more : List Command) where
  finds : (c : Command) → b.pending ≡ c ∷ more → IsFirst c q.entries → (is_busy q.busy link ≡ false → post ≡ Free) → FindsFree link c q.entries y.sender
  finds (command.Rts receive send l) e first room = rts_free number other tells others facts same link off x y gone pending post b q j peer listening stamp room more receive send l e first
  finds c e first room = tt

  -- a command that is no word
  none_found : (c : Command) → ((told : ℕ) → received_at (name_of number gone) link (Hears stamp told c) q listening ≡ []) → ((told : ℕ) → sent_at (name_of number gone) link (Hears stamp told c) q listening y.sender ≡ [])
      → map plain y.to_sender ≡ receiver_words other link y.receiver.asked (with_closing c (heard_from gone q.entries)) more → map plain x.to_receiver ≡ sender_words other link (with_closing c (heard_from gone q.entries)) more
      → Found number other tells others facts same link off x y gone pending post b q j peer listening stamp c more
  none_found c rs ss received sent = record {
    told = 0;
    rest_x = x.to_receiver;
    rest_y = y.to_sender;
    rx = subst (λ (ms : List receivers.Move). Receiving ms x x.to_receiver x.box) (sym (rs 0)) (quiet_received [] x tt);
    sy = subst (λ (ms : List senders.Move). Sending ms y y.to_sender y.box) (sym (ss 0)) (quiet_sent true [] y tt tt (λ f. absurd (cc)));
    received = received;
    sent = sent;
  }

  module _ (room : is_busy q.busy link ≡ false → post ≡ Free) where
    line_at : (c : Command) → b.pending ≡ c ∷ more → Line other link (heard_from gone q.entries) (c ∷ more) y.receiver.asked y.to_sender x.to_receiver
    line_at c e = subst (λ (cs : List Command). Line other link (heard_from gone q.entries) cs y.receiver.asked y.to_sender x.to_receiver) e (j.to_a refl)

    found : (c : Command) → b.pending ≡ c ∷ more → IsFirst c q.entries → IsHeard c q.entries → KeepBox (is_busy q.busy link) (sent_at (name_of number gone) link (Hears stamp 0 c) q listening y.sender) y.sender
        → Found number other tells others facts same link off x y gone pending post b q j peer listening stamp c more
    found (command.Rts receive send l) e first good keep = rts_found number other tells others facts same link off x y gone pending post b q j peer listening stamp room more receive send l e first good keep
    found (command.Str send receive z) e first good keep = str_found number other tells others facts same link off x y gone pending post b q j peer listening stamp room more send receive z e first
    found (command.All l m n) e first good keep = all_found number other tells others facts same link off x y gone pending post b q j peer listening stamp room more l m n e
    found (command.Gvb l m n) e first good keep = gvb_found number other tells others facts same link off x y gone pending post b q j peer listening stamp room more l m n e
    found (command.Ret l m n) e first good keep = ret_found number other tells others facts same link off x y gone pending post b q j peer listening stamp room more l m n e
    found (command.Cls foreign own) e first good keep = cls_found number other tells others facts same link off x y gone pending post b q j peer listening stamp room more foreign own e first.0 first.1 first.2 good keep
    found c e first good keep = none_found c (λ i. refl) (λ i. refl) (line_at c e).received (line_at c e).sent

    -- nothing is lost by it
    ready : (d : Command) → b.pending ≡ d ∷ more → IsFirst d q.entries → (told : ℕ) → b.stays ≡ true → AreKept (sent_at (name_of number gone) link (Hears stamp told d) q listening y.sender) y
    ready (command.Rts receive send l) i f told s = rts_kept number other tells others facts same link off x y gone pending post b q j peer listening stamp room more receive send l i f (j.exact_y refl s)
    ready (command.All l m n) i f told s = none_kept _ y (if_none (l == link) (senders.Hear (All told m n) ∷ []) tt)
    ready (command.Gvb l m n) i f told s = none_kept _ y (if_none (l == link) (senders.Hear (Gvb told m n) ∷ []) tt)
    ready (command.Cls foreign own) i f told s =
        none_kept _ y (cls_none (name_of number gone) q.busy own foreign q.entries y.sender (entry_at own foreign q.entries))
    ready d i f told s = tt

    pub hears : (c : Command) → b.pending ≡ c ∷ more → IsCommand c → IsPaired c → IsFirst c q.entries → IsHeard c q.entries
        → (told : ℕ) × Stepped number other tells others link x y (staying gone q.entries pending post) peer (Hears stamp told c) q listening post (record b { pending = more })
    hears c e command paired first good = (
      f.told,
      stepped number other tells others facts link off x y gone pending post b q j peer listening _ allowed paired post _
          (any number other tells others facts link off x y gone pending post b q j peer listening (Hears stamp f.told c) allowed paired _ _ x.box y.box f.rx f.sy (λ s. ready c e first f.told s) more line told post b.post
          (record { whole = j.box_x.whole; left = λ s t. j.box_x.left s refl })
          (record { whole = λ s. j.box_y.whole refl; left = λ s t text l. absurd (cc) })),
    ) where
      allowed : IsCommand c × FindsFree link c q.entries y.sender
      allowed = (command, finds c e first room)

      f : Found number other tells others facts same link off x y gone pending post b q j peer listening stamp c more
      f = found c e first good (keep_box number other tells others link x y gone pending post b q j peer listening (Hears stamp 0 c) allowed)

      now : (foreign own : ℕ) → with_closing c (heard_from gone q.entries) foreign own ≡ heard_by (later number other tells others facts link off x y gone pending post b q j peer listening (Hears stamp f.told c) allowed paired post) foreign own
      now foreign own = sym (facts.heard link gone peer q listening x.receiver y.sender stamp f.told c allowed (j.mine refl).holds first foreign own)

      line : Line other link (heard_by (later number other tells others facts link off x y gone pending post b q j peer listening (Hears stamp f.told c) allowed paired post)) more y.receiver.asked f.rest_y f.rest_x
      line = record {
        received = f.received ∙ receiver_same other link y.receiver.asked y.receiver.asked more _ _ now (λ own foreign g l. refl);
        sent = f.sent ∙ sender_same other link more _ _ now;
      }

      told : b.stays ≡ true → (own foreign : ℕ) → said_by b own foreign ≡ closings_in more (heard_by (later number other tells others facts link off x y gone pending post b q j peer listening (Hears stamp f.told c) allowed paired post)) own foreign
      told s own foreign =
          j.told_a refl s own foreign ∙ ap (λ (cs : List Command). closings_in cs (heard_from gone q.entries) own foreign) e
          ∙ closings_same more _ _ now own foreign
