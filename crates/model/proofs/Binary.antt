-- Every tree is the binary form of one document. Assumes nothing.
use Prim.Native.Nat.{ℕ}
use mathlib.Core.Path.{◌≡◌, refl, ◌∙◌, ap, ap₂}
use mathlib.Core.List.{[], ◌∷◌, ◌++◌}
use Rattle.tree.specs.Tree.{Tree, leaf, join}
use Rattle.model.specs.Documents.{Doc, node, Docs, nil, cons, top, tops, binary, joined, snoc, add, doc}
use Rattle.model.specs.Documents.{Models, Derives, derive, Each, each_nil, each_cons}

append : Docs → Docs → Docs
append nil es = es
append (cons d ds) es = cons d (append ds es)

add_all : Doc → Docs → Doc
add_all d nil = d
add_all d (cons e es) = add_all (add d e) es

append_snoc : (ds : Docs) (e : Doc) (es : Docs) → append (snoc ds e) es ≡ append ds (cons e es)
unfolding append snoc
append_snoc nil e es = refl
append_snoc (cons d ds) e es = ap (cons d) (append_snoc ds e es)

add_all_node : (a : ℕ) (ds es : Docs) → add_all (node a ds) es ≡ node a (append ds es)
unfolding add_all add append
add_all_node a ds nil = ap (node a) (append_nil_docs ds)
  where
    append_nil_docs : (ds : Docs) → ds ≡ append ds nil
    append_nil_docs nil = refl
    append_nil_docs (cons d ds) = ap (cons d) (append_nil_docs ds)
add_all_node a ds (cons e es) = add_all_node a (snoc ds e) es ∙ ap (node a) (append_snoc ds e es)

-- the document of a binary form
mutual
  unfolding doc add_all add append

  pub doc_binary : (d : Doc) → doc (binary d) ≡ d
  doc_binary (node a ds) = doc_joined (leaf a) ds ∙ add_all_node a nil ds

  doc_joined : (t : Tree) (ds : Docs) → doc (joined t ds) ≡ add_all (doc t) ds
  doc_joined t nil = refl
  doc_joined t (cons e es) = doc_joined (join t (binary e)) es ∙ ap (λ x. add_all (add (doc t) x) es) (doc_binary e)

-- the binary form of a tree's document
joined_snoc : (t : Tree) (ds : Docs) (e : Doc) → joined t (snoc ds e) ≡ join (joined t ds) (binary e)
unfolding snoc
joined_snoc t nil e = refl
joined_snoc t (cons d ds) e = joined_snoc (join t (binary d)) ds e

binary_add : (d e : Doc) → binary (add d e) ≡ join (binary d) (binary e)
unfolding add
binary_add (node a ds) e = joined_snoc (leaf a) ds e

pub binary_doc : (t : Tree) → binary (doc t) ≡ t
unfolding doc
binary_doc (leaf a) = refl
binary_doc (join t s) = binary_add (doc t) (doc s) ∙ ap₂ join (binary_doc t) (binary_doc s)

-- documents that are derived, with one more child
module _ {M : Models} where
  pub derives_top : {a : ℕ} {d : Doc} → Derives M a d → top d ≡ a
  derives_top (derive e w es) = refl

  pub derives_own : {a : ℕ} {d : Doc} → Derives M a d → Derives M (top d) d
  derives_own (derive e w es) = derive e w es

  pub each_snoc : {ds : Docs} {d : Doc} → Each M ds → Derives M (top d) d → Each M (snoc ds d)
  unfolding snoc
  each_snoc each_nil k = each_cons k each_nil
  each_snoc (each_cons h es) k = each_cons h (each_snoc es k)

pub tops_snoc : (ds : Docs) (d : Doc) → tops (snoc ds d) ≡ tops ds ++ (top d ∷ [])
unfolding snoc
tops_snoc nil d = refl
tops_snoc (cons e ds) d = ap (λ l. top e ∷ l) (tops_snoc ds d)
