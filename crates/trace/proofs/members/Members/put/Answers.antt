use Rattle.trace.proofs.Common.{◌≡◌, ◌∙◌, List, ℕ, ◌++◌, ◌-◌, ap, drop, length, rules, slice_set, sym, take, true, is_at, put_at}
use Rattle.trace.proofs.Changes.Putting.{after_front, as_was}
use Rattle.trace.proofs.members.Members.put.Goals.{then-is_at, else-is_at+in_ok-set}
use Rattle.trace.proofs.members.Members.put.Goals as goal

pub returns-clause-members : goal.returns-clause-members
returns-clause-members g c =
    let now : List (List ℕ) = c.args.self.now in
    let text : List ℕ = g.T.Item.text c.args.item.now in
    let may : c.args.may ≡ true = search rules in
    let n : ℕ = c.len-begins.result in
    let count : n ≡ length c.extend_from_slice.new.self.items = search rules in
    let items : c.deref.result.now ≡ c.extend_from_slice.new.self.items ++ text = c.deref.ensures.value ∙ c.in_ok-text.ensures in
    let there : take (length c.deref.result.now - n) (drop n c.deref.result.now) ≡ text = after_front c.deref.result.now c.extend_from_slice.new.self.items text n items count in
    elim c.if-is_at.branch [
      | then-is_at w ↦
          let same : is_at now c.args.place text ≡ true = sym (c.is_at.ensures ∙ ap (is_at now c.args.place) there) ∙ w.if-is_at.true in
          w.self-is ∙ sym (as_was now c.args.place text same) ∙ ap (λ t. put_at t now c.args.place text) (sym may)
      | else-is_at+in_ok-set w ↦
          let set : w.set.new.self ≡ slice_set now c.args.place text = search (rules, there) in
          w.self-is ∙ set ∙ ap (λ t. put_at t now c.args.place text) (sym may)
    ]
