-- The models' table accepts the binary form of exactly the documents that the models derive. Assumes nothing.
use Prim.Native.Nat.{ℕ, suc, ◌<◌}
use native.Mathlib.Omega.{arith}
use mathlib.Core.Path.{◌≡◌, refl, sym, ◌∙◌, subst}
use mathlib.Core.Logic.{◌↔◌}
use mathlib.Core.Option.{some}
use mathlib.Core.List.{List, [], ◌∷◌, ◌++◌, append_assoc, append-nil}
use Rattle.paper.specs.Limits.{Limits}
use Rattle.tree.specs.Tree.{Tree, leaf, join}
use Rattle.table.specs.Rules.{Rule, leaf_rule, join_rule, eps_rule, RulesOf, Has, at_leaf, at_join, at_eps, Accepts}
use Rattle.model.specs.Model.{Model, bears}
use Rattle.model.specs.Documents.{Doc, node, Docs, nil, cons, top, tops, binary, joined, Derives, derive, Each, each_nil, each_cons}
use Rattle.model.proofs.Positions.{Comes, comes_to, comes_next_lem, next_comes, ends_may, may_ends}
use Rattle.model.proofs.Read.{Reads, at_end, next, reads_exactly}
use Rattle.model.proofs.Binary.{doc_binary, binary_doc, derives_top, derives_own, each_snoc, tops_snoc}
use Rattle.model.specs.Documents.{add, doc}
use Rattle.compiled.specs.States.{element, inside, marks}
use Rattle.model.specs.Documents.{Line, model_of}
use Rattle.compiled.specs.Rules.{rules, numbers}
use Rattle.compiled.specs.Valid.{GoodLines, Valid}
use Rattle.compiled.specs.Meaning.{Numbered, RuleOf, leaf_of, the_eps_of, join_of}
use Rattle.compiled.proofs.Lines.{lines_below, lines_distinct}
use Rattle.compiled.proofs.Numbers.{element_inside, number_element, number_inside, inside_model}
use Rattle.compiled.proofs.RuleExact.{rule_exactly}
use Rattle.compiled.proofs.Marks.{final_start, start_final}

nil_cons : {x : ℕ} {l : List ℕ} → [] ≡ x ∷ l → ⊥
nil_cons e = let z : ◌≡◌ {A = ℕ} 0 1 = cc in omega arith

module _ {n : ℕ} {ls : List Line} (g : GoodLines n ls) where
  -- a document begun in the model m of a, up to position i: what can be read from there can be read behind its children
  data Begun (a : ℕ) (m : Model) (i : ℕ) : Doc → Type 0 where
    begun : {ds : Docs} → Each (model_of ls) ds → ((v : List ℕ) → Reads m i v → Reads m 0 (tops ds ++ v)) → Begun a m i (node a ds)

  -- what a state says of the document whose tree has it
  data Means (q : ℕ) (d : Doc) : Type 0 where
    of_element : {a : ℕ} → Numbered n ls q (element a) → Derives (model_of ls) a d → Means q d
    of_inside : {a i : ℕ} {m : Model} → Numbered n ls q (inside a m i) → Begun a m i d → Means q d

  means_element : {q a : ℕ} {d : Doc} → Numbered n ls q (element a) → Means q d → Derives (model_of ls) a d
  means_element {q} {a} {d} h (of_element {a = b} k e) =
      let z : element b ≡ element a = sym k.is ∙ h.is in
      let y : b ≡ a = cc in
      subst (λ a. Derives (model_of ls) a d) y e
  means_element h (of_inside k e) = absurd (element_inside (sym h.is ∙ k.is))

  means_inside : {q a i : ℕ} {m : Model} {d : Doc} → Numbered n ls q (inside a m i) → Means q d → Begun a m i d
  means_inside h (of_element k e) = absurd (element_inside (sym k.is ∙ h.is))
  means_inside {q} {a} {i} {m} {d} h (of_inside {a = b} {i = j} {m = o} k e) =
      let z : inside b o j ≡ inside a m i = sym k.is ∙ h.is in
      let x : b ≡ a = cc in
      let y : o ≡ m = cc in
      let w : j ≡ i = cc in
      subst (λ a. Begun a m i d) x (subst (λ m. Begun b m i d) y (subst (λ i. Begun b o i d) w e))

  -- one more child
  grow : {a i y : ℕ} {m : Model} {d e : Doc} → Begun a m i d → Derives (model_of ls) (bears m y) e
      → ((v : List ℕ) → Reads m (suc y) v → Reads m i (bears m y ∷ v)) → Begun a m (suc y) (add d e)
  unfolding add
  grow {m = m} {e = e} (begun {ds = ds} es f) k c =
      begun (each_snoc es (derives_own k))
      (λ v r. rw (tops_snoc ds e, derives_top k) (rw append_assoc (f _ (c v r))))

  sound_join : {l r q : ℕ} {d e : Doc} → Means l d → Means r e → RuleOf n ls (join_rule l r q) → Means q (add d e)
  sound_join u v (join_of {i = i} {y = y} {m = m} h c k j) =
      of_inside j (grow (means_inside h u) (means_element k v) (λ v r. next (next_comes m i y c) refl r))

  ended : {a i : ℕ} {m : Model} {d : Doc} → model_of ls a ≡ some m → Reads m i [] → Begun a m i d → Derives (model_of ls) a d
  ended {m = m} e r (begun {ds = ds} es f) = derive e ((reads_exactly m (tops ds)).0 (rw append-nil at (f [] r))) es

  sound_eps : {p q : ℕ} {d : Doc} → Means p d → RuleOf n ls (eps_rule p q) → Means q d
  sound_eps u (the_eps_of {i = i} {m = m} h c k) =
      of_element k (ended (inside_model (lines_distinct g) h) (at_end (may_ends m i c)) (means_inside h u))

  sound_leaf : {a q : ℕ} → RuleOf n ls (leaf_rule a q) → Means q (node a nil)
  sound_leaf (leaf_of h) = of_inside h (begun each_nil (λ v r. r))

  sound : {t : Tree} {q : ℕ} → Has (RuleOf n ls) t q → Means q (doc t)
  unfolding doc
  sound (at_leaf r) = sound_leaf r
  sound (at_join h k r) = sound_join (sound h) (sound k) r
  sound (at_eps h r) = sound_eps (sound h) r

  -- documents whose trees have their elements
  data All : Docs → Type 0 where
    all_nil : All nil
    all_cons : {d : Doc} {ds : Docs} → Has (RuleOf n ls) (binary d) (top d) → All ds → All (cons d ds)

  module _ {a : ℕ} {m : Model} (e : model_of ls a ≡ some m) where
    join_step : (i y : ℕ) {q p b : ℕ} → Comes m i y → bears m y ≡ b → Numbered n ls q (inside a m i)
        → Numbered n ls p (inside a m (suc y)) → RuleOf n ls (join_rule q b p)
    join_step i y {b = b} c s h k =
        let l = (lines_below g).inner a m e y (comes_to m i y c) in
        join_of h (comes_next_lem m i y c) (subst (λ b. Numbered n ls b (element (bears m y))) s (number_element (bears m y) l)) k

    climb : {t : Tree} {ds : Docs} {q i : ℕ} {w : List ℕ} → Numbered n ls q (inside a m i) → Has (RuleOf n ls) t q
        → Reads m i w → w ≡ tops ds → All ds → Has (RuleOf n ls) (joined t ds) a
    climb {i = i} h u (at_end c) s all_nil = at_eps u (the_eps_of h (ends_may m i c) (number_element a ((lines_below g).outer a m e)))
    climb h u (at_end c) s (all_cons k r) = absurd (nil_cons s)
    climb h u (next c b v) s all_nil = absurd (nil_cons (sym s))
    climb {t = t} {i = i} h u (next {y = y} {a = b} {w = w} c o v) s (all_cons {d = d} {ds = ds} k r) =
        let z : b ≡ top d = cc in
        let p = number_inside {n = n} (suc y) e (let l = comes_to m i y c in omega arith) in
        climb {t = join t (binary d)} p.1 (at_join u k (join_step i y c (o ∙ z) h p.1)) v (cc) r

    complete_node : (ds : Docs) → Reads m 0 (tops ds) → All ds → Has (RuleOf n ls) (joined (leaf a) ds) a
    complete_node ds r k =
        let p = number_inside {n = n} 0 e (omega arith) in
        climb {ds = ds} p.1 (at_leaf (leaf_of p.1)) r refl k

  mutual
    complete : {a : ℕ} {d : Doc} → Derives (model_of ls) a d → Has (RuleOf n ls) (binary d) a
    complete (derive {m = m} {ds = ds} e w es) = complete_node e ds ((reads_exactly m (tops ds)).1 w) (completes es)

    completes : {ds : Docs} → Each (model_of ls) ds → All ds
    completes each_nil = all_nil
    completes (each_cons k es) = all_cons (complete k) (completes es)

  -- a tree has an element exactly if the models derive its document from the element's symbol
  pub has_exactly : (a : ℕ) → a < n → (d : Doc) → Has (RuleOf n ls) (binary d) a ↔ Derives (model_of ls) a d
  has_exactly a l d =
      (λ h. subst (Derives (model_of ls) a) (doc_binary d) (means_element (number_element a l) (sound h)), complete)

-- a rule set that says the same gives a tree the same states
has_by : {R Q : Rule → Type 0} → ((r : Rule) → R r → Q r) → {t : Tree} {q : ℕ} → Has R t q → Has Q t q
has_by f (at_leaf r) = at_leaf (f _ r)
has_by f (at_join h k r) = at_join (has_by f h) (has_by f k) (f _ r)
has_by f (at_eps h r) = at_eps (has_by f h) (f _ r)

module _ (L : Limits) (four : L.width ≡ 4) {n start : ℕ} {ls : List Line} (v : Valid n start ls) where
  -- the table's numbers accept the binary form of exactly the documents that the models derive from the start
  pub accepts_exactly : (d : Doc)
      → Accepts (RulesOf L.width (numbers (rules n ls))) (marks start n ls) (binary d) ↔ Derives (model_of ls) start d
  accepts_exactly d = (to, back)
    where
      to : Accepts (RulesOf L.width (numbers (rules n ls))) (marks start n ls) (binary d) → Derives (model_of ls) start d
      to a =
          let h = has_by (λ r. (rule_exactly v.lines L four r).0) a.has in
          (has_exactly v.lines start v.start_below d).0
          (subst (Has (RuleOf n ls) (binary d)) (final_start start n ls a.state a.final) h)

      back : Derives (model_of ls) start d → Accepts (RulesOf L.width (numbers (rules n ls))) (marks start n ls) (binary d)
      back k = record {
        state = start;
        final = start_final start n ls v.start_below;
        has = has_by (λ r. (rule_exactly v.lines L four r).1) ((has_exactly v.lines start v.start_below d).1 k);
      }

  -- and of every tree, that it accepts it exactly if they derive its document
  pub accepts_tree : (t : Tree)
      → Accepts (RulesOf L.width (numbers (rules n ls))) (marks start n ls) t ↔ Derives (model_of ls) start (doc t)
  accepts_tree t =
      subst (λ s. Accepts (RulesOf L.width (numbers (rules n ls))) (marks start n ls) s ↔ Derives (model_of ls) start (doc t))
      (binary_doc t) (accepts_exactly (doc t))
