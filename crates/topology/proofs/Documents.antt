-- Going through the items of an array.
use Rattle.std.proofs.Common.{◌≡◌, ℕ, ◌<◌, ◌+◌, List, [], ◌∷◌, ◌++◌, length, get_or, drop, Option, Some, None, refl, sym, ap, ◌∙◌, String, Global, add-one, suc, true, subst, codes, option_map}
use Rattle.std.proofs.lemmas.List.{append_assoc}
use Rattle.std.proofs.lemmas.Bool.{false≢true}
use Rattle.toml.specs.Data.{Data, Members, no_members, table}
use Rattle.toml.specs.Errors.{IsBlank}
use Rattle.toml.specs.Parse.{lines, parse_document, skip_bom}
use Rattle.toml.specs.Tables.{Document, close, no_nodes}
use Rattle.toml.specs.View.{view, items_view, members_view}
use Rattle.toml.specs.declared.value.Value.{Value}
use Rattle.toml.proofs.Views.{items_view-drop}
use Rattle.topology.specs.Topology.{each_of, has, joined_option, member_count}

-- these values, and those that follow, where there are any
abbrev pub behind : {X : Type 0} → List X → Option (List X) → Option (List X)
behind {X} done None = None
behind {X} done (Some rest) = Some (done ++ rest)

behind_more : {X : Type 0} (done : List X) (x : X) (rest : Option (List X)) → behind done (joined_option (Some x) rest) ≡ behind (done ++ x ∷ []) rest
behind_more {X} done x None = refl
behind_more {X} done x (Some rest) = ap Some (sym (append_assoc done (x ∷ []) rest))

-- one more value is described
pub one_more : {X : Type 0} (describes : Data → Option X) (vs : List Value) (i : ℕ) (d : Value) (done : List X) (x : X) (all : Option (List X)) → i < length vs → describes (view (get_or vs i d)) ≡ Some x → all ≡ behind done (each_of describes (items_view (drop i vs))) → all ≡ behind (done ++ x ∷ []) (each_of describes (items_view (drop (i + 1) vs)))
one_more {X} describes vs i d done x all h is e =
    e ∙ ap (λ items. behind done (each_of describes items)) (items_view-drop vs i d h) ∙ ap (λ o. behind done (joined_option o (each_of describes (items_view (drop (i + 1) vs))))) is ∙ behind_more done x (each_of describes (items_view (drop (i + 1) vs)))

-- a value that is no description spoils all
pub none_more : {X : Type 0} (describes : Data → Option X) (vs : List Value) (i : ℕ) (d : Value) (done : List X) (all : Option (List X)) → i < length vs → describes (view (get_or vs i d)) ≡ None → all ≡ behind done (each_of describes (items_view (drop i vs))) → all ≡ None
none_more {X} describes vs i d done all h is e =
    e ∙ ap (λ items. behind done (each_of describes items)) (items_view-drop vs i d h) ∙ ap (λ o. behind done (joined_option o (each_of describes (items_view (drop (i + 1) vs))))) is

-- a table has as many members as its map has entries
pub count_members : (es : List (String Global × Value)) → member_count (members_view es) ≡ length es
count_members [] = refl
count_members (e ∷ es) = add-one (member_count (members_view es)) ∙ ap suc (count_members es)

-- ---- a text without a document

blank_lines : (n : ℕ) (doc : Document) (text : List ℕ) → IsBlank text → lines (suc n) doc (skip_bom text) ≡ Some doc
unfolding lines
blank_lines n doc text h = rw h refl

blank_document : (text : List ℕ) → IsBlank text → parse_document text ≡ Some no_members
unfolding parse_document
blank_document text h = ap (option_map (λ (doc : Document). close doc.0)) (blank_lines (length text) (no_nodes, []) text h)

pub some_same : {X : Type 0} {x y : X} → Some x ≡ Some y → x ≡ y
some_same e = cc

-- a blank text lists no IMP
pub no_imps : (text : List ℕ) (members : Members) → IsBlank text → parse_document text ≡ Some members → has (codes "imp") (table members) ≡ true → ⊥
no_imps text members blank read listed =
    let none : members ≡ no_members = some_same (sym read ∙ blank_document text blank) in
    false≢true (subst (λ ms. has (codes "imp") (table ms) ≡ true) none listed)
