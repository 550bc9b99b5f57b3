-- The plain run of what a rewritten file carries is the original's: its words differ where they are illegal, and its start doesn't differ.
use Rattle.std.proofs.Common.{◌≡◌, ℕ, zero, suc, ◌+◌, ◌*◌, ◌-◌, ◌/◌, ◌%◌, ◌==◌, ◌<◌, ◌≤◌, ◌&&◌, Bool, true, false, not, nat_lt, nat_le, List, [], ◌∷◌, ◌++◌, length, get_or, map, take, drop, slice_get, Option, Some, None, refl, sym, ap, subst, arith, ◌∙◌, append_assoc}
use Rattle.std.specs.Prelude.{All, if◌then◌else◌, ◌⊎◌}
use Rattle.std.proofs.Common.{inl, inr}
use Rattle.std.proofs.lemmas.Bool.{cases_lt}
use Rattle.std.specs.Option.{option_map, option_and_then}
use Rattle.std.proofs.Math.Path.{fun_ext}
use Rattle.std.proofs.lemmas.Bool.Decides.{nat_tests}
use Rattle.std.proofs.lemmas.Option.{slice_get-map}
use Rattle.std.proofs.lemmas.List.{length-take, length-drop, get_or-take, get_or-drop, get_or_append_left, get_or-append_right}
use Rattle.std.proofs.lemmas.List.Elements.{All-head, All-tail}
use Rattle.spec_base.specs.Files.{Files}
use Rattle.spec_base.specs.declared.layout.Layout.{Layout}
use Rattle.spec_base.specs.declared.machine.Trap.TheVariants as trap
use Rattle.spec_base.specs.declared.machine.View.TheVariants.{Plain}
use Rattle.rv_decode.specs.Fields.{opcode}
use Rattle.rv_decode.specs.Instruction.{instr_of, gate_of}
use Rattle.rv_decode.specs.declared.instr.Instr.{Instr}
use Rattle.rv_decode.specs.declared.instr.Instr.TheVariants.{Illegal}
use Rattle.rv_decode.proofs.Selected.{gate-is}
use Rattle.rv_model.specs.Memory.{Memory, patched, written, is_within}
use Rattle.rv_model.specs.Rights.{in_text, data_rights}
use Rattle.rv_model.specs.Registers.{Registers}
use Rattle.rv_model.specs.Effect.{Effect, Next, Stored, Trapped, Called, Gated, effect, fetched}
use Rattle.program_model.specs.PlainRun.{Image as Program, State, Taken, state_after, next_state, next_unless, completed, at_word, after_effect, text_of, end_of, end_unless, end_of_step}
use Rattle.program_model.specs.Loading.{with_parts, data_of}
use Rattle.program_loader.specs.Programs.{part_of}
use Rattle.elf_image.specs.declared.segments.Segment.{Segment}
use Rattle.elf_image.specs.declared.image.Image.{Image}
use Rattle.elf_writer.specs.FileParts.{segment_part, end_of_part, file_offset}
use Rattle.elf_writer.specs.RewrittenFile.{HasWords, word_bytes, original_bytes, holds_text, patched_if, segment_bytes}
use Rattle.elf_writer.proofs.FileLemmas.{InFile, word_bytes-length, original-length, patched-length}
use Rattle.machine_laws.proofs.PatchedWords.{illegal-0}
use Rattle.recovery_laws.specs.Texts.{harmless_word}
use Rattle.recovery_laws.specs.Moved.{moved_segments}
use Rattle.recovery_laws.proofs.Body.{at_offset}

-- ---- words of the gates' opcode

-- a program with 0 in their place
abbrev pub harmless : Program → Program
harmless p = record p { words = map harmless_word p.words }

module _ (p : Program) (files : Files) (t : Taken) where
  -- a step by an effect doesn't see the words
  by_effect : (s : State) (e : Effect) → after_effect (harmless p) files t s e ≡ after_effect p files t s e
  by_effect s (Next rs pc) = refl
  by_effect s (Stored a width v) = refl
  by_effect s (Trapped cause) = refl
  by_effect s Called = refl
  by_effect s (Gated i) = refl

  -- a gate traps as an illegal word does
  gate-traps : (s : State) (w : ℕ) → effect Plain (data_rights p.layout) s.memory s.registers s.pc (gate_of w) ≡ Trapped trap.Illegal
  gate-traps s w = grind (arith, nat_tests)

  same-effect : (s : State) (w : ℕ) (b : Bool) → (opcode w == 0b0001011) ≡ b
      → effect Plain (data_rights p.layout) s.memory s.registers s.pc (instr_of (harmless_word w)) ≡ effect Plain (data_rights p.layout) s.memory s.registers s.pc (instr_of w)
  same-effect s w true h =
      let is : opcode w ≡ 0b0001011 = grind (arith, nat_tests) in
      let zero_word : harmless_word w ≡ 0 = rw h refl in
      ap (λ k. effect Plain (data_rights p.layout) s.memory s.registers s.pc (instr_of k)) zero_word
      ∙ ap (effect Plain (data_rights p.layout) s.memory s.registers s.pc) illegal-0
      ∙ sym (ap (effect Plain (data_rights p.layout) s.memory s.registers s.pc) (gate-is w is) ∙ gate-traps s w)
  same-effect s w false h =
      let same : harmless_word w ≡ w = rw h refl in
      ap (λ k. effect Plain (data_rights p.layout) s.memory s.registers s.pc (instr_of k)) same

  by_word : (s : State) (o : Option ℕ) → at_word (harmless p) files t s (option_map instr_of (option_map harmless_word o)) ≡ at_word p files t s (option_map instr_of o)
  by_word s None = refl
  by_word s (Some w) =
      by_effect s (effect Plain (data_rights p.layout) s.memory s.registers s.pc (instr_of (harmless_word w)))
      ∙ ap (after_effect p files t s) (same-effect s w (opcode w == 0b0001011) refl)

  by_place : (s : State) (k : ℕ) → at_word (harmless p) files t s (slice_get (text_of (harmless p)) k) ≡ at_word p files t s (slice_get (text_of p) k)
  by_place s k =
      ap (at_word (harmless p) files t s) (slice_get-map instr_of (map harmless_word p.words) k ∙ ap (option_map instr_of) (slice_get-map harmless_word p.words k))
      ∙ by_word s (slice_get p.words k) ∙ ap (at_word p files t s) (sym (slice_get-map instr_of p.words k))

  by_fetch : (s : State) (b : Bool) (k : ℕ)
      → at_word (harmless p) files t s (elim b [ true ↦ slice_get (text_of (harmless p)) k | false ↦ None ])
      ≡ at_word p files t s (elim b [ true ↦ slice_get (text_of p) k | false ↦ None ])
  by_fetch s true k = by_place s k
  by_fetch s false k = refl

  by_exit : (s : State) (e : Option ℕ) → next_unless e (harmless p) files t s ≡ next_unless e p files t s
  by_exit s (Some code) = refl
  by_exit s None = ap completed (by_fetch s (nat_le p.layout.text_start s.pc && (s.pc % 4 == 0)) ((s.pc - p.layout.text_start) / 4))

  by_state : (o : Option State) → option_and_then (next_state (harmless p) files t) o ≡ option_and_then (next_state p files t) o
  by_state None = refl
  by_state (Some s) = by_exit s s.exited

  pub after-harmless : (s : State) (n : ℕ) → state_after (harmless p) files t s n ≡ state_after p files t s n
  unfolding state_after
  after-harmless s zero = refl
  after-harmless s (suc n) =
      by_state (state_after (harmless p) files t s n) ∙ ap (λ o. option_and_then (next_state p files t) o) (after-harmless s n)

  end-by_exit : (s : State) (e : Option ℕ) → end_unless e (harmless p) files t s ≡ end_unless e p files t s
  end-by_exit s (Some code) = refl
  end-by_exit s None = ap (λ step. end_of_step step s.pc) (by_fetch s (nat_le p.layout.text_start s.pc && (s.pc % 4 == 0)) ((s.pc - p.layout.text_start) / 4))

  pub end-harmless : (s : State) → end_of (harmless p) files t s ≡ end_of p files t s
  end-harmless s = end-by_exit s s.exited

-- ---- the memory at the start

-- a patched segment has its own bytes outside the text
patched-outside : (image : Image) (words : List ℕ) (s : Segment) (original : List ℕ) (i : ℕ) → HasWords image words → length original ≡ s.length
    → s.address ≤ image.text_start → image.text_end ≤ s.address + s.length → (s.address + i < image.text_start) ⊎ (image.text_end ≤ s.address + i)
    → get_or (take (image.text_start - s.address) original ++ (word_bytes words ++ drop (image.text_end - s.address) original)) i 0 ≡ get_or original i 0
patched-outside image words s original i text long after before (inl low) =
    let k : ℕ = image.text_start - s.address in
    let front : length (take k original) ≡ k = omega (arith, length-take k original, long, after, before, text.ordered) in
    let below : i < k = omega (arith, low, after) in
    get_or_append_left (take k original) (word_bytes words ++ drop (image.text_end - s.address) original) 0 i (omega (arith, front, below))
    ∙ get_or-take k original i 0 below
patched-outside image words s original i text long after before (inr high) =
    let k : ℕ = image.text_start - s.address in
    let e : ℕ = image.text_end - s.address in
    let front : length (take k original) ≡ k = omega (arith, length-take k original, long, after, before, text.ordered) in
    let words_long : length (word_bytes words) ≡ e - k = omega (arith, word_bytes-length words, text.counted, text.ordered, after) in
    let place : e + (i - k - (e - k)) ≡ i = omega (arith, high, after, text.ordered) in
    get_or-append_right (take k original) (word_bytes words ++ drop e original) k i 0 front (omega (arith, high, after, text.ordered))
    ∙ get_or-append_right (word_bytes words) (drop e original) (e - k) (i - k) 0 words_long (omega (arith, high, after, text.ordered))
    ∙ get_or-drop e original (i - k - (e - k)) 0 ∙ ap (λ j. get_or original j 0) place

segment-outside : (b : Bool) (image : Image) (words : List ℕ) (s : Segment) (original : List ℕ) (a : ℕ) → HasWords image words → length original ≡ s.length
    → b ≡ holds_text image s → s.address ≤ a → (nat_le image.text_start a && nat_lt a image.text_end) ≡ false
    → get_or (patched_if b image words s original) (a - s.address) 0 ≡ get_or original (a - s.address) 0
segment-outside false image words s original a text long holds low out = refl
segment-outside true image words s original a text long holds low out =
    let after : s.address ≤ image.text_start = grind (arith, nat_tests) in
    let before : image.text_end ≤ s.address + s.length = grind (arith, nat_tests) in
    ap (λ w. get_or w (a - s.address) 0) (append_assoc (take (image.text_start - s.address) original) (word_bytes words) (drop (image.text_end - s.address) original))
    ∙ patched-outside image words s original (a - s.address) text long after before (by_side (cases_lt a image.text_start))
  where
    by_side : (a < image.text_start) ⊎ (image.text_start ≤ a) → (s.address + (a - s.address) < image.text_start) ⊎ (image.text_end ≤ s.address + (a - s.address))
    by_side (inl below) = inl (omega (arith, below, low))
    by_side (inr above) = inr (let past : image.text_end ≤ a = grind (arith, nat_tests) in omega (arith, past, low))

-- two choices by one test
choice : (b : Bool) (x y u v : ℕ) → (b ≡ true → x ≡ u) → (b ≡ false → y ≡ v) → ◌≡◌ {A = ℕ} (elim b [ true ↦ x | false ↦ y ]) (elim b [ true ↦ u | false ↦ v ])
choice true x y u v h k = h refl
choice false x y u v h k = k refl

from-within : (base n a : ℕ) → is_within base n a ≡ true → base ≤ a
from-within base n a h = grind (arith, nat_tests)

module _ (bytes : List ℕ) (image : Image) (words file : List ℕ) (text : HasWords image words) where
  -- one segment written over memories that agree outside the text
  written-outside : (s r : Segment) (m k : Memory) (a : ℕ) → InFile bytes s → r.address ≡ s.address
      → original_bytes file r ≡ segment_bytes bytes image words s
      → k a ≡ m a → (nat_le image.text_start a && nat_lt a image.text_end) ≡ false
      → written k r.address (original_bytes file r) a ≡ written m s.address (original_bytes bytes s) a
  unfolding patched
  written-outside s r m k a inside at are same out =
      let long : length (segment_bytes bytes image words s) ≡ length (original_bytes bytes s) =
      patched-length (holds_text image s) image words s (original_bytes bytes s) text (original-length bytes s inside) refl in
      ap (λ n. written k n (original_bytes file r) a) at ∙ ap (λ b. written k s.address b a) are
      ∙ ap (λ n. patched k s.address n (λ i. get_or (segment_bytes bytes image words s) i 0) a) long
      ∙ choice (is_within s.address (length (original_bytes bytes s)) a) (get_or (segment_bytes bytes image words s) (a - s.address) 0) (k a)
      (get_or (original_bytes bytes s) (a - s.address) 0) (m a)
      (λ e. segment-outside (holds_text image s) image words s (original_bytes bytes s) a text (original-length bytes s inside) refl
      (from-within s.address (length (original_bytes bytes s)) a e) out)
      (λ e. same)

  -- all segments, in order
  pub parts-outside : (ss : List Segment) (cursor : ℕ) (m k : Memory) → All (InFile bytes) ss
      → map (original_bytes file) (moved_segments cursor ss) ≡ map (segment_bytes bytes image words) ss
      → ((a : ℕ) → (nat_le image.text_start a && nat_lt a image.text_end) ≡ false → k a ≡ m a)
      → (a : ℕ) → (nat_le image.text_start a && nat_lt a image.text_end) ≡ false
      → with_parts k (map (part_of file) (moved_segments cursor ss)) a ≡ with_parts m (map (part_of bytes) ss) a
  parts-outside [] cursor m k placed are same a out = same a out
  parts-outside (s ∷ ss) cursor m k placed are same a out =
      let r : Segment = at_offset s (file_offset cursor s.address) in
      let c : ℕ = end_of_part cursor (segment_part s) in
      let here : original_bytes file r ≡ segment_bytes bytes image words s = cc in
      let later : map (original_bytes file) (moved_segments c ss) ≡ map (segment_bytes bytes image words) ss = cc in
      parts-outside ss c (written m s.address (original_bytes bytes s)) (written k r.address (original_bytes file r)) (All-tail (InFile bytes) s ss placed) later
      (λ b o. written-outside s r m k b (All-head (InFile bytes) s ss placed) refl here (same b o) o) a out

-- the text is a list of words beside the memory, so the memory is the same
pub data-same : (l : Layout) (m k : Memory) → ((a : ℕ) → in_text l a ≡ false → k a ≡ m a) → data_of l k ≡ data_of l m
data-same l m k h = fun_ext (λ a. choice (in_text l a) 0 (k a) 0 (m a) (λ e. refl) (λ e. h a e))
