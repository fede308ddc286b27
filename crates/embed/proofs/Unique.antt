-- The six numbers and what the lent slices then hold are the only ones that each contract allows; but which witness is handed out is open.
-- Assumes nothing.
use Prim.Native.Nat.{ℕ, ◌<◌}
use mathlib.Core.Path.{◌≡◌, sym, ap, ◌∙◌}
use mathlib.Core.Logic.{◌⊎◌, inl, inr, ⊎_elim}
use mathlib.Core.List.{List}
use Rattle.paper.specs.Limits.{limits}
use Rattle.paper.specs.Told.{Told, witness}
use Rattle.rule_read.proofs.Unique.{reads_unique}
use Rattle.rule_write.proofs.Unique.{writes_unique}
use Rattle.model_table.proofs.Exact.{compiles_unique}
use Rattle.factorized.proofs.Exact.{check_answer_unique}
use Rattle.accept.proofs.JudgeLaws.{accept_unique}
use Rattle.inclusion.specs.Inclusion.{Lent, told}
use Rattle.inclusion.proofs.Exact.{told_unique_but_witness}
use Rattle.embed.specs.declared.Answer.{Answer}
use Rattle.embed.specs.Numbers.{numbers, value_numbers}
use Rattle.embed.proofs.Apart.{witness_some}
use Rattle.embed.specs.Says.{Says, ReadSays, WriteSays, CompileSays, CheckSays, ReceiverSays, AcceptSays, IncludeSays}

-- one answer has one set of numbers
says_one : {X : Type 0} {tell : X → Told} {P Q : X → Type 0} {a b : Answer} (x : Says tell P a) (y : Says tell Q b)
    → x.answer ≡ y.answer → a ≡ b
says_one {tell = tell} x y e = x.same ∙ ap (λ z. numbers (tell z)) e ∙ sym y.same

pub read_unique : (s M W : List ℕ) {a b : Answer} {M₁ W₁ M₂ W₂ : List ℕ} → ReadSays s M W a M₁ W₁ → ReadSays s M W b M₂ W₂
    → (a ≡ b) × ((M₁ ≡ M₂) × (W₁ ≡ W₂))
read_unique s M W x y =
    let u = reads_unique limits s M W x.promise y.promise in
    (says_one x y u.0, u.1)

pub write_unique : (symbols : ℕ) (ms xs O : List ℕ) {a b : Answer} {O₁ O₂ : List ℕ} → WriteSays symbols ms xs O a O₁ → WriteSays symbols ms xs O b O₂
    → (a ≡ b) × (O₁ ≡ O₂)
write_unique symbols ms xs O x y =
    let u = writes_unique limits symbols ms xs O _ _ _ _ x.promise y.promise in
    (says_one x y u.0, u.1)

pub compile_unique : (s M W : List ℕ) {a b : Answer} {M₁ W₁ M₂ W₂ : List ℕ} → CompileSays s M W a M₁ W₁ → CompileSays s M W b M₂ W₂
    → (a ≡ b) × ((M₁ ≡ M₂) × (W₁ ≡ W₂))
compile_unique s M W x y =
    let u = compiles_unique limits s M W _ _ _ _ _ _ x.promise y.promise in
    (says_one x y u.0, (u.1, u.2))

pub check_numbers_unique : (symbols : ℕ) (ms xs : List ℕ) {a b : Answer} → CheckSays symbols ms xs a → CheckSays symbols ms xs b → a ≡ b
check_numbers_unique symbols ms xs x y = x ∙ sym y

pub check_receiver_unique : (symbols : ℕ) (ms xs : List ℕ) {a b : Answer} → ReceiverSays symbols ms xs a → ReceiverSays symbols ms xs b → a ≡ b
check_receiver_unique symbols ms xs x y = says_one x y (check_answer_unique limits symbols ms xs _ _ x.promise y.promise)

pub accept_numbers_unique : (symbols : ℕ) (ms xs ns : List ℕ) {a b : Answer} → AcceptSays symbols ms xs ns a → AcceptSays symbols ms xs ns b → a ≡ b
accept_numbers_unique symbols ms xs ns x y = says_one x y (accept_unique limits symbols ms xs ns _ _ x.promise y.promise)

-- the numbers say that a witness of one node or more is handed out
abbrev pub SaysWitness : Answer → Type 0
SaysWitness a = (k : ℕ) × (0 < k) × (a ≡ value_numbers k 0 0)

pub include_numbers_unique : (A B : Lent) (ws : List ℕ) {a b : Answer} {ws₁ ws₂ : List ℕ} → IncludeSays A B ws a ws₁ → IncludeSays A B ws b ws₂
    → ((a ≡ b) × (ws₁ ≡ ws₂)) ⊎ (SaysWitness a × SaysWitness b)
include_numbers_unique A B ws {a} {b} {ws₁} {ws₂} x y =
    ⊎_elim
    (λ (e : (told x.answer ≡ told y.answer) × (ws₁ ≡ ws₂)). inl (x.same ∙ ap numbers e.0 ∙ sym y.same, e.1))
    (λ (e : ((k : ℕ) × (told x.answer ≡ witness k)) × ((k : ℕ) × (told y.answer ≡ witness k))). inr (says x e.0, says y e.1))
    (told_unique_but_witness limits A B ws ws₁ ws₂ (told x.answer) (told y.answer) x.promise y.promise)
  where
    says : {c : Answer} {ws' : List ℕ} (z : IncludeSays A B ws c ws') → (k : ℕ) × (told z.answer ≡ witness k) → SaysWitness c
    says {c} {ws'} z (k, e) = (k, witness_some A B ws ws' k (rw e at z.promise), z.same ∙ ap numbers e)
