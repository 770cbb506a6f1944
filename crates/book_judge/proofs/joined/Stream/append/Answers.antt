use Rattle.book_judge.proofs.Common.{◌≡◌, ℕ, ◌+◌, List, [], ◌∷◌, ◌++◌, Bool, Option, None, Some, drop, take, length, ap, sym, ◌∙◌, append-nil, arith, length-append, Piece}
use Rattle.promise.specs.Formed.{data_in}
use Rattle.book_judge.specs.Inside.Joined.{bits_in, one_unread}
use Rattle.book_judge.proofs.Crossed.Streamed.{cut_at, data_none, data_some, stream_more}
use Rattle.book_judge.proofs.joined.Stream.append.Goals as goal

pub returns-in_default : goal.returns-in_default
returns-in_default c = λ f log k at text h.
    (let none : data_in c.args.comes c.args.text.now ≡ None = data_none c.args.comes c.args.text.now c.end_of.result c.end_of.ensures.exact c.in_default.is in
    let put : ℕ → ℕ → List Piece = λ before unread. c.args.self.now.pieces.items ++ record { place = c.args.place; before = before; unread = unread } ∷ [] in
    stream_more c.args.comes f log k c.args.text.now c.args.self.now _ c.args.place text at
    (c.in_ok-push.ensures.items ∙ ap (λ (n : ℕ). put n c.len-2.result) c.len.ensures ∙ ap (λ (n : ℕ). put (length c.args.self.now.bits) n) (c.len-2.ensures ∙ c.args.self.now.unread.ok.0))
    (sym (append-nil c.args.self.now.bits) ∙ ap (λ (o : Option (List Bool)). c.args.self.now.bits ++ bits_in o) (sym none))
    (ap length c.in_ok-push-2.ensures.items ∙ length-append c.args.self.now.unread.items (c.args.place ∷ []) ∙ ap (λ (o : Option (List Bool)). length c.args.self.now.unread.items + one_unread o) (sym none)) h)

pub returns : goal.returns
returns c = λ f log k at text h.
    (let some : data_in c.args.comes c.args.text.now ≡ Some (drop 40 (take c.in-Some.end c.args.text.now)) = data_some c.args.comes c.args.text.now c.end_of.result c.in-Some.end c.end_of.ensures.exact c.in-Some.is in
    let put : ℕ → ℕ → List Piece = λ before unread. c.args.self.now.pieces.items ++ record { place = c.args.place; before = before; unread = unread } ∷ [] in
    stream_more c.args.comes f log k c.args.text.now c.args.self.now _ c.args.place text at
    (c.in_ok-push.ensures.items ∙ ap (λ (n : ℕ). put n c.len-2.result) c.len.ensures ∙ ap (λ (n : ℕ). put (length c.args.self.now.bits) n) (c.len-2.ensures ∙ c.args.self.now.unread.ok.0))
    (c.in-Ok-append.ensures.decided.1 ∙ ap (λ (bs : List Bool). c.args.self.now.bits ++ bs) (c.in-Ok.ensures.decided.1 ∙ ap (λ (n : ℕ). drop n (take c.in-Some.end c.args.text.now)) c.min.ensures ∙ cut_at c.in-Some.end c.args.text.now)
    ∙ ap (λ (o : Option (List Bool)). c.args.self.now.bits ++ bits_in o) (sym some))
    (let zero_more : length c.args.self.now.unread.items ≡ length c.args.self.now.unread.items + 0 = omega arith in zero_more ∙ ap (λ (o : Option (List Bool)). length c.args.self.now.unread.items + one_unread o) (sym some)) h)
