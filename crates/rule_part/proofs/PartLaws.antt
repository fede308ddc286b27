-- The faulty line of a text is there exactly where it is refused, and the reader's answer tells that. Assumes nothing.
use Prim.Native.Nat.{ℕ, ◌*◌, ◌-◌, ◌≤◌}
use mathlib.Core.Path.{◌≡◌, ap, sym, ◌∙◌}
use mathlib.Core.Bool.{true, false}
use mathlib.Core.Logic.{◌≢◌}
use mathlib.Core.List.{List, []}
use lib.ListN.{length}
use Rattle.std.specs.Prelude.{Ok, Err}
use Rattle.paper.specs.Limits.{Limits}
use Rattle.paper.specs.Told.{refusal, is_refusal, place_of}
use Rattle.lines.specs.Lines.{line_at}
use Rattle.lines.proofs.Tests.{split}
use Rattle.paper.specs.declared.Refusal.{Refusal}
use Rattle.table.specs.declared.Sizes.{Sizes}
use Rattle.rule_read.specs.Text.{Reading, text_told, told, Reads}
use Rattle.rule_part.specs.Part.{line_or, faulty_part}
use Rattle.rule_read.proofs.Exact.{text_numbered, read_on}
use Rattle.table.proofs.RoomLaws.{roomy}

module _ (L : Limits) (s other : List ℕ) where
  pub line_here : is_refusal (text_told L s) ≡ true → line_or L s other ≡ line_at s (place_of (text_told L s) - 1)
  unfolding line_or
  line_here h = rw h

  pub line_else : is_refusal (text_told L s) ≢ true → line_or L s other ≡ other
  unfolding line_or
  line_else h = split (is_refusal (text_told L s)) (λ t. absurd (h t)) (λ t. rw t)

-- the faulty line of two texts, by whether they are refused
module _ (L : Limits) (sender receiver : List ℕ) where
  pub part_sender : {s : ℕ} → is_refusal (text_told L sender) ≡ true → s ≡ place_of (text_told L sender) - 1
      → line_at sender s ≡ faulty_part L sender receiver
  unfolding faulty_part
  part_sender h e = rw e (sym (line_here L sender (line_or L receiver []) h))

  module _ (n : is_refusal (text_told L sender) ≢ true) where
    pub part_receiver : {r : ℕ} → is_refusal (text_told L receiver) ≡ true → r ≡ place_of (text_told L receiver) - 1
        → line_at receiver r ≡ faulty_part L sender receiver
    unfolding faulty_part
    part_receiver h e = rw e (sym (line_else L sender (line_or L receiver []) n ∙ line_here L receiver [] h))

    pub part_none : is_refusal (text_told L receiver) ≢ true → [] ≡ faulty_part L sender receiver
    unfolding faulty_part
    part_none h = sym (line_else L sender (line_or L receiver []) n ∙ line_else L receiver [] h)

-- the reader's answer, where there is room
module _ {L : Limits} {s M W M' W' : List ℕ} {a : Reading} (g : Reads L s M W a M' W') (m : L.states ≤ length M)
    (w : L.rules * L.width ≤ length W) where
  text_answer : told a ≡ text_told L s
  text_answer = g.answer ∙ read_on L s M W (roomy L M W m w)

  pub answer_refused : {x : Refusal} → a ≡ Err x → is_refusal (text_told L s) ≡ true
  unfolding is_refusal
  answer_refused e = rw (sym text_answer, e)

  pub answer_place : {x : Refusal} → a ≡ Err x → (1 ≤ x.place) × (x.place ≡ place_of (text_told L s))
  unfolding place_of
  answer_place {x} e =
      let t : refusal x ≡ text_told L s = ap told (sym e) ∙ text_answer in
      ((text_numbered L s x.number x.side x.place (sym t)).1.1.1, ap place_of t)

  pub answer_read : {x : Sizes} → a ≡ Ok x → is_refusal (text_told L s) ≢ true
  unfolding is_refusal
  answer_read e t = let z : false ≡ true = rw (sym text_answer, e) at t in cc
