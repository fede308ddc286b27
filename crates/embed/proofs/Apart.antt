-- The six numbers tell the answers apart: number 0 says exactly that nothing is refused, as no refusal has that number; a witness has a
-- node, so that 0 nodes say "included". Assumes nothing.
use Prim.Native.Nat.{ℕ, zero, suc, ◌*◌, ◌<◌}
use mathlib.Core.Path.{◌≡◌, refl, ap, ◌∙◌}
use mathlib.Core.Logic.{◌↔◌}
use mathlib.Core.Bool.{false}
use mathlib.Core.List.{List}
use native.Mathlib.Omega.{arith}
use lib.ListN.{take}
use Rattle.paper.specs.Limits.{Limits, limits}
use Rattle.paper.specs.Told.{Told, refused, passes, accepted, rejected, included, witness, holds, sizes, written, check_told, is_refusal}
use Rattle.tree.specs.Nodes as nodes
use Rattle.tree.proofs.Exact as trees
use Rattle.table.specs.Check as tables
use Rattle.table.proofs.Exact as checked
use Rattle.receiver.specs.Check as receivers
use Rattle.factorized.proofs.Exact.{receiver_refused_exactly}
use Rattle.rule_line.specs.declared.Line.{Line}
use Rattle.rule_read.specs.Text as texts
use Rattle.rule_read.proofs.Wrong.{read_refused_exactly}
use Rattle.rule_write.specs.Write as writes
use Rattle.rule_write.proofs.Exact.{write_refused_exactly}
use Rattle.model_read.specs.Text as surveys
use Rattle.model_table.specs.Compile as compiles
use Rattle.model_table.proofs.Exact.{compile_refused_exactly}
use Rattle.accept.specs.Accept as accepts
use Rattle.accept.proofs.JudgeLaws.{nodes_some}
use Rattle.inclusion.specs.Inclusion as including
use Rattle.inclusion.proofs.Exact.{include_refused_exactly, witness_nodes}
use Rattle.embed.specs.declared.Answer.{Answer}
use Rattle.embed.specs.Numbers.{numbers}
use Rattle.embed.specs.Says.{ReadSays, WriteSays, CompileSays, CheckSays, ReceiverSays, AcceptSays, IncludeSays}

-- what is told is no refusal with the number 0
abbrev Numbered : Told → Type 0
Numbered t = (n s p : ℕ) → t ≡ refused n s p → 0 < n

-- number 0 says exactly that nothing is refused
abbrev pub Apart : Told → Answer → Type 0
Apart t a = (a.number ≡ 0) ↔ (is_refusal t ≡ false)

numbers_apart : (t : Told) → Numbered t → Apart t (numbers t)
unfolding is_refusal
numbers_apart (refused n s p) h = (λ e. absurd (omega (arith, h n s p refl, e)), λ e. let z : ◌≡◌ {A = ℕ} 0 1 = cc in absurd (omega arith))
numbers_apart passes h = (λ e. refl, λ e. refl)
numbers_apart accepted h = (λ e. refl, λ e. refl)
numbers_apart rejected h = (λ e. refl, λ e. refl)
numbers_apart included h = (λ e. refl, λ e. refl)
numbers_apart (witness k) h = (λ e. refl, λ e. refl)
numbers_apart (holds y n r) h = (λ e. refl, λ e. refl)
numbers_apart (sizes y s n) h = (λ e. refl, λ e. refl)
numbers_apart (written b) h = (λ e. refl, λ e. refl)

apart : {a : Answer} (t : Told) → a ≡ numbers t → Numbered t → Apart t a
apart t e h = rw e (numbers_apart t h)

-- the refusals of each row of the paper have numbers above 0
module _ {L : Limits} {symbols : ℕ} {ms xs : List ℕ} where
  table_numbered : {n s p : ℕ} → tables.TableRefused L symbols ms xs n s p → 0 < n
  table_numbered (tables.too_large_of _) = omega arith
  table_numbered (tables.ragged _ _) = omega arith
  table_numbered (tables.bad_mark_of _ _ _ _ _) = omega arith
  table_numbered (tables.misshapen _ _) = omega arith
  table_numbered (tables.out_of_range_of _ _ _) = omega arith
  table_numbered (tables.repeated _ _ _ _) = omega arith

  receiver_numbered : {n s p : ℕ} → receivers.ReceiverRefused L symbols ms xs n s p → 0 < n
  receiver_numbered (receivers.of_table_of t) = table_numbered t
  receiver_numbered (receivers.left_side _ _) = omega arith
  receiver_numbered (receivers.sorts _ _ _) = omega arith
  receiver_numbered (receivers.reaches _ _ _ _) = omega arith

  write_numbered : {O : List ℕ} {n s p : ℕ} → writes.WriteRefused L symbols ms xs O n s p → 0 < n
  write_numbered (writes.bad_table t) = table_numbered t
  write_numbered (writes.short_slice _ _) = omega arith

tree_numbered : {L : Limits} {symbols : ℕ} {ns : List ℕ} {n s p : ℕ} → nodes.TreeRefused L symbols ns n s p → 0 < n
tree_numbered (nodes.bad_length _) = omega arith
tree_numbered (nodes.bad_node_of _ _ _ _) = omega arith

include_numbered : {L : Limits} {A B : including.Lent} {room n s p : ℕ} → including.IncludeRefused L A B room n s p → 0 < n
include_numbered (including.of_sender t) = table_numbered t
include_numbered (including.of_receiver _ t) = receiver_numbered t
include_numbered (including.symbol_counts _ _ _) = omega arith
include_numbered (including.no_room _ _ _ _) = omega arith

head_numbered : {L : Limits} {l : Line} {n : ℕ} → texts.HeadWrong L l n → 0 < n
head_numbered texts.head_shape_of = omega arith
head_numbered texts.state_first_of = omega arith
head_numbered texts.rule_first = omega arith
head_numbered (texts.head_size_of _) = omega arith

line_numbered : {L : Limits} {y n m : ℕ} {rs : List ℕ} {l : Line} {f : ℕ} → texts.LineWrong L y n m rs l f → 0 < f
line_numbered texts.line_shape = omega arith
line_numbered texts.second_head = omega arith
line_numbered (texts.state_order_of _) = omega arith
line_numbered (texts.state_sort_of _) = omega arith
line_numbered (texts.rule_early_of _) = omega arith
line_numbered (texts.rule_many_of _) = omega arith
line_numbered (texts.rule_range_of _) = omega arith
line_numbered (texts.rule_again_of _) = omega arith

wrong_numbered : (L : Limits) (ls : List Line) (k : ℕ) {n : ℕ} → texts.WrongAt L ls k n → 0 < n
wrong_numbered L ls zero w = head_numbered w
wrong_numbered L ls (suc k) w = line_numbered w

module _ {L : Limits} {s : List ℕ} where
  text_numbered : {n d p : ℕ} → texts.TextRefused L s n d p → 0 < n
  text_numbered (texts.wrong_line {k = k} _ w _ _) = wrong_numbered L (texts.said_by s) k w
  text_numbered (texts.ends_too_soon _ _) = omega arith

  survey_numbered : {n d p : ℕ} → surveys.SurveyRefused L s n d p → 0 < n
  survey_numbered (surveys.malformed _ _ _) = omega arith
  survey_numbered (surveys.too_many_states _ _) = omega arith

  read_numbered : {M W : List ℕ} {n d p : ℕ} → texts.ReadRefused L s M W n d p → 0 < n
  read_numbered (texts.short_slice _) = omega arith
  read_numbered (texts.bad_text _ t) = text_numbered t

  compile_numbered : {M W : List ℕ} {n d p : ℕ} → compiles.CompileRefused L s M W n d p → 0 < n
  compile_numbered (compiles.short_slice _) = omega arith
  compile_numbered (compiles.bad_text _ t) = survey_numbered t
  compile_numbered (compiles.ambiguous_model _ _ _) = omega arith
  compile_numbered (compiles.too_many_rules _ _ _) = omega arith

judged_numbered : {symbols : ℕ} {ms xs ns : List ℕ} (t : Told) → accepts.Judged limits symbols ms xs ns t → Numbered t
judged_numbered {symbols} {ms} {xs} {ns} t (accepts.bad_table e) n s p d = table_numbered ((checked.refused_exactly limits symbols ms xs n s p).0 (e ∙ d))
judged_numbered {symbols} {ms} {xs} {ns} t (accepts.bad_tree _ e) n s p d = tree_numbered ((trees.refused_exactly limits symbols ns n s p).0 (e ∙ d))
judged_numbered t (accepts.is_accepted _ _ _) n s p d = let z : ◌≡◌ {A = ℕ} 0 1 = cc in absurd (omega arith)
judged_numbered t (accepts.is_rejected _ _ _) n s p d = let z : ◌≡◌ {A = ℕ} 0 1 = cc in absurd (omega arith)

-- each function: number 0 says exactly that nothing is refused
pub read_apart : (s M W : List ℕ) {a : Answer} {M' W' : List ℕ} → ReadSays s M W a M' W' → Apart (texts.read_told limits s M W) a
read_apart s M W x =
    apart (texts.read_told limits s M W) (x.same ∙ ap numbers x.promise.answer) (λ n d p e. read_numbered ((read_refused_exactly limits s M W n d p).0 e))

pub write_apart : (symbols : ℕ) (ms xs O : List ℕ) {a : Answer} {O' : List ℕ} → WriteSays symbols ms xs O a O'
    → Apart (writes.write_told limits symbols ms xs O) a
write_apart symbols ms xs O x =
    apart (writes.write_told limits symbols ms xs O) (x.same ∙ ap numbers x.promise.answer)
    (λ n s p e. write_numbered ((write_refused_exactly limits symbols ms xs O n s p).0 e))

pub compile_apart : (s M W : List ℕ) {a : Answer} {M' W' : List ℕ} → CompileSays s M W a M' W' → Apart (compiles.compile_told limits s M W) a
compile_apart s M W x =
    apart (compiles.compile_told limits s M W) (x.same ∙ ap numbers x.promise.answer)
    (λ n d p e. compile_numbered ((compile_refused_exactly limits s M W n d p).0 e))

pub check_apart : (symbols : ℕ) (ms xs : List ℕ) {a : Answer} → CheckSays symbols ms xs a → Apart (tables.table_checked limits symbols ms xs) a
check_apart symbols ms xs x =
    apart (tables.table_checked limits symbols ms xs) x (λ n s p e. table_numbered ((checked.refused_exactly limits symbols ms xs n s p).0 e))

pub check_receiver_apart : (symbols : ℕ) (ms xs : List ℕ) {a : Answer} (x : ReceiverSays symbols ms xs a) → Apart (check_told x.answer) a
check_receiver_apart symbols ms xs x =
    apart (check_told x.answer) x.same
    (λ n s p e. receiver_numbered ((receiver_refused_exactly limits symbols ms xs (check_told x.answer) x.promise n s p).0 e))

pub accept_apart : (symbols : ℕ) (ms xs ns : List ℕ) {a : Answer} (x : AcceptSays symbols ms xs ns a) → Apart (accepts.told x.answer) a
accept_apart symbols ms xs ns x = apart (accepts.told x.answer) x.same (judged_numbered (accepts.told x.answer) x.promise)

pub include_apart : (A B : including.Lent) (ws : List ℕ) {a : Answer} {ws' : List ℕ} (x : IncludeSays A B ws a ws')
    → Apart (including.told x.answer) a
include_apart A B ws {ws' = ws'} x =
    apart (including.told x.answer) x.same
    (λ n s p e. include_numbered ((include_refused_exactly limits A B ws ws' (including.told x.answer) x.promise n s p).0 e))

-- a witness has a node: 0 nodes say "included"
pub witness_some : (A B : including.Lent) (ws ws' : List ℕ) (k : ℕ) → including.Answered limits A B ws ws' (witness k) → 0 < k
witness_some A B ws ws' k (including.is_witness c w) =
    let n = witness_nodes w in
    let m = nodes_some limits A.symbols (take (2 * k) ws') w.tree in
    omega (arith, n, m)
