-- A request that is heard finds the law's link free.
use Rattle.pair_keeps_streams.proofs.Common.{◌≡◌, ℕ, ◌==◌, true, List, [], ◌∷◌, map, refl, ap, ◌∙◌, eq-eqb, Command, Word, Rts, Stream, link_free, FindsFree, IsTelling, plain, receiver_words, with_closing}
use Rattle.ncp_control.specs.declared.command.Command.TheVariants as command
use Rattle.pair_keeps_streams.proofs.Joint.{Joint, Party, heard_by}
use Rattle.pair_keeps_streams.proofs.FirstWords.{plain_rts}

first_word : (ws more : List Word) (c : ℕ) → map plain ws ≡ Rts c ∷ more → (rest : List Word) × (ws ≡ Rts c ∷ rest)
first_word [] more c e = absurd (cc)
first_word (w ∷ ws) more c e = let head : plain w ≡ Rts c = cc in (ws, ap (λ (v : Word). v ∷ ws) (plain_rts w c head))

module _ (number other : ℕ → ℕ → ℕ → ℕ) (tells : IsTelling number) (others : IsTelling other) (link : ℕ) (x y : Stream) (a b : Party) (j : Joint number other tells others link x y a b) (stays : a.stays ≡ true) where
  pub finds_free : (c : Command) (more : List Command) → b.pending ≡ c ∷ more → FindsFree link c a.entries y.sender
  finds_free (command.Rts receive send l) more e = λ here none. (let w : (rest : List Word) × (y.to_sender ≡ Rts (other receive send (heard_by a receive send)) ∷ rest) = first here in link_free y _ w.0 j.inv_y w.1) where
    said : l ≡ link → map plain y.to_sender ≡ Rts (other receive send (heard_by a receive send)) ∷ receiver_words other link y.receiver.asked (with_closing (command.Rts receive send l) (heard_by a)) more
    said here =
        let test : (l == link) ≡ true = eq-eqb l link here in
        (j.to_a stays).received ∙ ap (λ (cs : List Command). receiver_words other link y.receiver.asked (heard_by a) cs) e ∙ rw test refl

    first : l ≡ link → (rest : List Word) × (y.to_sender ≡ Rts (other receive send (heard_by a receive send)) ∷ rest)
    first here = first_word _ _ _ (said here)
  finds_free (command.Str send receive size) more e = tt
  finds_free c more e = tt
