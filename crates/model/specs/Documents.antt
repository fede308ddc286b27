-- Documents, their binary form, and what models derive.
use Rattle.std.specs.Prelude.{ℕ, ◌≡◌, cond, List, [], ◌∷◌, eqb}
use Rattle.std.proofs.Math.Option.{Option, none, some}
use Rattle.tree.specs.Tree.{Tree, leaf, join}
use Rattle.model.specs.Model.{Model, Word}

-- a document is an element with a sequence of documents under it
mutual
  pub data Doc : Type 0 where
    node : (symbol : ℕ) → Docs → Doc

  pub data Docs : Type 0 where
    nil : Docs
    cons : Doc → Docs → Docs

-- the symbol at the top of a document, and those of a sequence of documents
abbrev pub top : Doc → ℕ
top (node a ds) = a

abbrev pub tops : Docs → List ℕ
tops nil = []
tops (cons d ds) = top d ∷ tops ds

-- the binary form: an element alone is a leaf; each child is joined on from the left
abbrev mutual
  pub binary : Doc → Tree
  binary (node a ds) = joined (leaf a) ds

  pub joined : Tree → Docs → Tree
  joined t nil = t
  joined t (cons d ds) = joined (join t (binary d)) ds

-- a document with one more child at the end, and the document of a tree
unfoldable pub snoc : Docs → Doc → Docs
snoc nil d = cons d nil
snoc (cons e ds) d = cons e (snoc ds d)

unfoldable pub add : Doc → Doc → Doc
add (node a ds) d = node a (snoc ds d)

unfoldable pub doc : Tree → Doc
doc (leaf a) = node a nil
doc (join t s) = add (doc t) (doc s)

-- for each symbol its model, if it has one
abbrev pub Models : Type 0
Models = ℕ → Option Model

-- an M line: a symbol and its model
pub record Line : Type 0 where
  pub of : ℕ
  pub model : Model

-- the model of each symbol that has a line
unfoldable pub model_of : List Line → Models
model_of [] a = none
model_of (ln ∷ ls) a = cond (eqb ln.of a) (some ln.model) (model_of ls a)

-- the documents of a symbol: that symbol is at the top, the children's symbols in order are a word of its model, and each child is a
-- document of its own symbol. A symbol without a model has no documents.
mutual
  pub data Derives (M : Models) : ℕ → Doc → Type 0 where
    derive : {a : ℕ} {m : Model} {ds : Docs} → M a ≡ some m → Word m (tops ds) → Each M ds → Derives M a (node a ds)

  pub data Each (M : Models) : Docs → Type 0 where
    each_nil : Each M nil
    each_cons : {d : Doc} {ds : Docs} → Derives M (top d) d → Each M ds → Each M (cons d ds)
