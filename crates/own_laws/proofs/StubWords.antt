-- What each word of the stub does, whatever is in x29, x30 and x31: an equation for each.
use Rattle.std.proofs.Common.{◌≡◌, ℕ, zero, suc, ◌+◌, ◌-◌, ◌*◌, ◌/◌, ◌%◌, ◌^◌, ◌≤◌, ◌<◌, Bool, true, false, not, ◌||◌, pos, List, [], ◌∷◌, ◌++◌, Some, None, refl, ◌∙◌, ap, sym, ap₂, ◌==◌, arith, bit_and, nat_le, nat_lt, slice_get, eqb→eq, lit<, le-leb, lt-ltb, eq-eqb, take, drop, length, zero-add, suc-add}
use Rattle.std.proofs.lemmas.Bool.{and_from, or_right}
use Rattle.std.proofs.lemmas.Bool.Decides.{nat_tests}
use Rattle.std.proofs.Math.Path.{fun_ext}
use Rattle.spec_base.specs.Word.{wrap, plus_int}
use Rattle.spec_base.specs.declared.machine.View.TheVariants.{Stub}
use Rattle.spec_base.specs.declared.note.ShadowState.TheVariants.{Stopped}
use Rattle.rv_decode.specs.declared.instr.Instr.{Instr}
use Rattle.rv_decode.specs.declared.instr.LoadOp.TheVariants.{Ld}
use Rattle.rv_model.specs.Memory.{Memory, stored, loaded, all_from}
use Rattle.rv_model.specs.Rights.{in_private, in_link, stub_rights}
use Rattle.rv_model.specs.Registers.{Registers, with_reg}
use Rattle.rv_model.specs.Effect.{jump_if, branch_if, load_effect, load_if, store_effect, store_if, steps_on, fetched}
use Rattle.rv_model.specs.Space.{stub_sees}
use Rattle.program_model.specs.Calls.{key_of}
use Rattle.program_model.specs.PlainRun.{State, plan_of}
use Rattle.code_model.specs.Assembly.{sd}
use Rattle.code_model.specs.Stub.{stub, box_stores}
use Rattle.run_model.specs.Run.{World, Run, Answer}
use Rattle.run_model.specs.OwnMoves.{stub_step, stub_at, stub_after, stub_stores, restarted}
use Rattle.own_laws.proofs.Side.{Side, with_side, Tally}

-- ---- the own hart at a word of the stub

-- the program's registers, but for x29, x30 and x31
abbrev pub three : Registers → ℕ → ℕ → ℕ → Registers
three q a b c n = elim (n == 31) [ true ↦ c | false ↦ elim (n == 30) [ true ↦ b | false ↦ elim (n == 29) [ true ↦ a | false ↦ q n ] ] ]

-- the own side at word k of the stub, counted from 1, in the call that the program makes in the state q
abbrev pub stub_side : State → Tally → ℕ → Registers → Memory → Side
stub_side q t k rs page =
    record { own = record q { registers = rs; pc = 0x417F_FFFC + 4 * k }; site = q.pc; gate = q; view = Stub; page = page; stalled = false; tally = t; end = None }

-- a run whose own side is that
abbrev pub at : State → Tally → Run → ℕ → ℕ → ℕ → ℕ → Memory → Run
at q t r k a b c page = with_side r (stub_side q t k (three q.registers a b c) page)

-- the counts after a restart for this call
abbrev pub restarted_tally : State → Tally → Tally
restarted_tally q t = record t { own = 0; whole = true; origin = Some q; restarts = t.restarts + 1; asked = true }

-- ---- a write to one of the three registers

module _ (q : Registers) (a b c v : ℕ) where
  -- x29 is written
  three-x29 : with_reg (three q a b c) 29 v ≡ three q v b c
  three-x29 = fun_ext (λ n. grind (arith, nat_tests))

  -- x30 is written
  three-x30 : with_reg (three q a b c) 30 v ≡ three q a v c
  three-x30 = fun_ext (λ n. grind (arith, nat_tests))

  -- x31 is written
  three-x31 : with_reg (three q a b c) 31 v ≡ three q a b v
  three-x31 = fun_ext (λ n. grind (arith, nat_tests))

-- with the program's own numbers they are its registers
pub three-own : (q : Registers) → three q (q 29) (q 30) (q 31) ≡ q
three-own q = fun_ext (λ n. by_tests n (n == 31) (n == 30) (n == 29) refl refl refl)
  where
    by_tests : (n : ℕ) (x y z : Bool) → (n == 31) ≡ x → (n == 30) ≡ y → (n == 29) ≡ z
        → elim x [ true ↦ q 31 | false ↦ elim y [ true ↦ q 30 | false ↦ elim z [ true ↦ q 29 | false ↦ q n ] ] ] ≡ q n
    by_tests n true y z e f g = ap q (sym (eqb→eq n 31 (rw e tt)))
    by_tests n false true z e f g = ap q (sym (eqb→eq n 30 (rw f tt)))
    by_tests n false false true e f g = ap q (sym (eqb→eq n 29 (rw g tt)))
    by_tests n false false false e f g = refl

-- a register below x31 is the program's where x29 and x30 are
pub three-low : (q : Registers) (c j : ℕ) → j < 30 → three q (q 29) (q 30) c (suc j) ≡ q (suc j)
three-low q c j h = by_tests (suc j) (suc j == 31) (suc j == 30) (suc j == 29) refl refl refl (omega arith)
  where
    by_tests : (n : ℕ) (x y z : Bool) → (n == 31) ≡ x → (n == 30) ≡ y → (n == 29) ≡ z → n < 31
        → elim x [ true ↦ c | false ↦ elim y [ true ↦ q 30 | false ↦ elim z [ true ↦ q 29 | false ↦ q n ] ] ] ≡ q n
    by_tests n true y z e f g l =
        let is : n ≡ 31 = eqb→eq n 31 (rw e tt) in
        absurd (omega (arith, is, l))
    by_tests n false true z e f g l = ap q (sym (eqb→eq n 30 (rw f tt)))
    by_tests n false false true e f g l = ap q (sym (eqb→eq n 29 (rw g tt)))
    by_tests n false false false e f g l = refl

-- ---- places that are known but for a number

-- the stub may load and store what lies in the link
link_byte : (a : ℕ) → 0x4200_0000 ≤ a → a < 0x4200_2000 → (in_private a || in_link a) ≡ true
link_byte a h l =
    or_right (in_private a) (in_link a)
    (and_from (nat_le 0x4200_0000 a) (nat_lt a (0x4200_0000 + 0x2000)) (le-leb 0x4200_0000 a h) (lt-ltb a (0x4200_0000 + 0x2000) l))

-- so may n bytes of it
link_bytes : (a n : ℕ) → 0x4200_0000 ≤ a → a + n ≤ 0x4200_2000 → all_from stub_rights.load a n ≡ true
unfolding all_from
link_bytes a zero h l = refl
link_bytes a (suc n) h l = and_from (in_private a || in_link a) _ (link_byte a h (omega arith)) (link_bytes (a + 1) n (omega arith) (omega arith))

-- a place below the private page isn't in it
not_private : (a : ℕ) → a < 0xFFFF_FFFF_FFFF_F800 → in_private a ≡ false
not_private a h = grind (arith, nat_tests)

-- what the stub sees below its page is what it shares
loaded-shared : (shared page : Memory) (a n : ℕ) → a + n ≤ 0xFFFF_FFFF_FFFF_F800 → loaded (stub_sees shared page) a n ≡ loaded shared a n
unfolding loaded
loaded-shared shared page a zero h = refl
loaded-shared shared page a (suc n) h =
    ap₂ (λ (x y : ℕ). x + 256 * y) (ap (λ b. elim b [ true ↦ page a | false ↦ shared a ]) (not_private a (omega arith)))
    (loaded-shared shared page (a + 1) n (omega arith))

-- a place of the log, before its key
pub record InLog (c : ℕ) : Type 0 where
  pub entry : ℕ
  pub below : entry < 64
  pub is : c ≡ 0x4200_0000 + 16 * entry

-- what stands behind a list is the next list's
pub slice_get-append : {X : Type 0} (xs ys : List X) (n : ℕ) → slice_get (xs ++ ys) (length xs + n) ≡ slice_get ys n
slice_get-append [] ys n = ap (slice_get ys) (zero-add n)
slice_get-append (x ∷ xs) ys n = ap (slice_get (x ∷ (xs ++ ys))) (suc-add (length xs) n) ∙ slice_get-append xs ys n

-- the j-th store of the box is of register i + j
slice_get-box_stores : (i n j : ℕ) (rest : List Instr) → j < n → slice_get (box_stores i n ++ rest) j ≡ Some (sd (i + j) (pos (8 * (i + j))) 31)
slice_get-box_stores i zero j rest h = absurd (omega arith)
slice_get-box_stores i (suc n) zero rest h = ap (λ (k : ℕ). Some (sd k (pos (8 * k)) 31)) (omega arith)
slice_get-box_stores i (suc n) (suc j) rest h =
    slice_get-box_stores (i + 1) n j rest (omega arith) ∙ ap (λ (k : ℕ). Some (sd k (pos (8 * k)) 31)) (omega arith)

-- the words before the box's registers, and those behind
before_box : List Instr
before_box = take 36 stub

behind_box : List Instr
behind_box = drop 66 stub

-- they are the stub
stub_parts : stub ≡ before_box ++ (box_stores 1 30 ++ behind_box)
unfolding before_box behind_box
stub_parts = refl

-- word 37 + j of the stub stores register j + 1
stub_box : (j : ℕ) → j < 30 → fetched stub 0x4180_0000 (0x417F_FFFC + 4 * (37 + j)) ≡ Some (sd (suc j) (pos (8 * suc j)) 31)
unfolding before_box
stub_box j h =
    let pc : ℕ = 0x417F_FFFC + 4 * (37 + j) in
    let low : nat_le 0x4180_0000 pc ≡ true = le-leb 0x4180_0000 pc (omega arith) in
    let even : (pc % 4 == 0) ≡ true = eq-eqb (pc % 4) 0 (omega arith) in
    let place : (pc - 0x4180_0000) / 4 ≡ length before_box + j = omega arith in
    ap (λ b. elim b [ true ↦ slice_get stub ((pc - 0x4180_0000) / 4) | false ↦ None ]) (and_from _ _ low even)
    ∙ ap₂ (λ (words : List Instr) (k : ℕ). slice_get words k) stub_parts place
    ∙ slice_get-append before_box (box_stores 1 30 ++ behind_box) j
    ∙ slice_get-box_stores 1 30 j behind_box h
    ∙ ap (λ (k : ℕ). Some (sd k (pos (8 * k)) 31)) (omega arith)

-- ---- the words

-- a branch goes to one word or to another
abbrev pub branched : Bool → ℕ → ℕ → ℕ
branched true k l = k
branched false k l = l

module _ (w : World) (x : Answer) (q : State) (t : Tally) where
  -- the run after word k
  abbrev pub after_word : Run → ℕ → ℕ → ℕ → ℕ → Memory → Run
  after_word r k a b c page = stub_step w x (at q t r k a b c page)

  -- the run at word k
  abbrev pub here : Run → ℕ → ℕ → ℕ → ℕ → Memory → Run
  here r k a b c page = at q t r k a b c page

  -- the key of the call
  abbrev pub key : ℕ
  key = key_of (plan_of w.image.layout q)

  -- the link, as the stub stores to it
  abbrev pub linked : Run → ℕ → ℕ → Run
  linked r place v = record r { shared = stored r.shared place 8 v }

  -- the shadow is stopped
  abbrev pub stopped : Run → Run
  stopped r = record r { shadow = record r.shadow { state = Stopped } }

  -- the run at word k once x29 is written
  x29 : (r : Run) (k a b c v : ℕ) (page : Memory) → with_side r (stub_side q t k (with_reg (three q.registers a b c) 29 v) page) ≡ here r k v b c page
  x29 r k a b c v page = ap (λ rs. with_side r (stub_side q t k rs page)) (three-x29 q.registers a b c v)

  -- once x30 is written
  x30 : (r : Run) (k a b c v : ℕ) (page : Memory) → with_side r (stub_side q t k (with_reg (three q.registers a b c) 30 v) page) ≡ here r k a v c page
  x30 r k a b c v page = ap (λ rs. with_side r (stub_side q t k rs page)) (three-x30 q.registers a b c v)

  -- once x31 is written
  x31 : (r : Run) (k a b c v : ℕ) (page : Memory) → with_side r (stub_side q t k (with_reg (three q.registers a b c) 31 v) page) ≡ here r k a b v page
  x31 r k a b c v page = ap (λ rs. with_side r (stub_side q t k rs page)) (three-x31 q.registers a b c v)

  -- a branch of word k goes to one of two words
  branch_goes : (t? : Bool) (r : Run) (k l m a b c : ℕ) (page : Memory) (pc target : ℕ) → wrap (pc + 4) ≡ 0x417F_FFFC + 4 * m → (target % 4 == 0) ≡ true → target ≡ 0x417F_FFFC + 4 * l
      → stub_after w x (here r k a b c page) (branch_if t? (three q.registers a b c) pc target) ≡ here r (branched t? l m) a b c page
  branch_goes true r k l m a b c page pc target next lawful is =
      ap (λ e. stub_after w x (here r k a b c page) (jump_if e (three q.registers a b c) target)) lawful
      ∙ ap (λ n. with_side r (record (stub_side q t l (three q.registers a b c) page) { own = record q { registers = three q.registers a b c; pc = n } })) is
  branch_goes false r k l m a b c page pc target next lawful is =
      ap (λ n. with_side r (record (stub_side q t m (three q.registers a b c) page) { own = record q { registers = three q.registers a b c; pc = n } })) next

  module _ (r : Run) (a b c : ℕ) (page : Memory) where
    -- 1 sd x31,X31(x0)
    pub word_1 : after_word r 1 a b c page ≡ here r 2 a b c (stored page (2 ^ 64 - 8) 8 c)
    unfolding all_from
    word_1 = refl

    -- 2 hkey x31
    pub word_2 : after_word r 2 a b c page ≡ here r 3 a b key page
    word_2 = x31 r 3 a b c key page

    -- 3 beq x31,x0,->25
    pub word_3 : after_word r 3 a b c page ≡ here r (branched (c == 0) 25 4) a b c page
    word_3 = branch_goes (c == 0) r 3 25 4 a b c page 0x4180_0008 0x4180_0060 refl refl refl

    -- 4 sd x30,X30(x0)
    pub word_4 : after_word r 4 a b c page ≡ here r 5 a b c (stored page (2 ^ 64 - 16) 8 b)
    unfolding all_from
    word_4 = refl

    -- 5 sd x29,X29(x0)
    pub word_5 : after_word r 5 a b c page ≡ here r 6 a b c (stored page (2 ^ 64 - 24) 8 a)
    unfolding all_from
    word_5 = refl

    -- 6 sd x31,VAL(x0)
    pub word_6 : after_word r 6 a b c page ≡ here r 7 a b c (stored page (2 ^ 64 - 64) 8 c)
    unfolding all_from
    word_6 = refl

    -- 7 lui x30,0x42000
    pub word_7 : after_word r 7 a b c page ≡ here r 8 a 0x4200_0000 c page
    word_7 = x30 r 8 a b c 0x4200_0000 page

    -- 8 ld x29,0(x30)
    pub word_8 : after_word r 8 a 0x4200_0000 c page ≡ here r 9 (loaded r.shared 0x4200_0000 8) 0x4200_0000 c page
    unfolding all_from loaded
    word_8 = x29 r 9 a 0x4200_0000 c (loaded r.shared 0x4200_0000 8) page

    -- 9 ld x31,8(x30)
    pub word_9 : after_word r 9 a 0x4200_0000 c page ≡ here r 10 a 0x4200_0000 (loaded r.shared 0x4200_0008 8) page
    unfolding all_from loaded
    word_9 = x31 r 10 a 0x4200_0000 c (loaded r.shared 0x4200_0008 8) page

    -- 10 beq x29,x31,->28
    pub word_10 : after_word r 10 a b c page ≡ here r (branched (a == c) 28 11) a b c page
    word_10 = branch_goes (a == c) r 10 28 11 a b c page 0x4180_0024 0x4180_006C refl refl refl

    -- 11 andi x31,x29,63
    pub word_11 : after_word r 11 a b c page ≡ here r 12 a b (bit_and a 63) page
    word_11 = x31 r 12 a b c (bit_and a 63) page

    -- 12 slli x31,x31,4
    pub word_12 : after_word r 12 a b c page ≡ here r 13 a b (wrap (c * 2 ^ 4)) page
    word_12 = x31 r 13 a b c (wrap (c * 2 ^ 4)) page

    -- 13 add x31,x31,x30
    pub word_13 : after_word r 13 a b c page ≡ here r 14 a b (wrap (c + b)) page
    word_13 = x31 r 14 a b c (wrap (c + b)) page

    -- 15 ld x30,VAL(x0)
    pub word_15 : after_word r 15 a b c page ≡ here r 16 a (loaded page (2 ^ 64 - 64) 8) c page
    unfolding all_from loaded
    word_15 = x30 r 16 a b c (loaded page (2 ^ 64 - 64) 8) page

    -- 16 bne x29,x30,->28
    pub word_16 : after_word r 16 a b c page ≡ here r (branched (not (a == b)) 28 17) a b c page
    word_16 = branch_goes (not (a == b)) r 16 28 17 a b c page 0x4180_003C 0x4180_006C refl refl refl

    -- 18 bne x29,x12,->28
    pub word_18 : after_word r 18 a b c page ≡ here r (branched (not (a == q.registers 12)) 28 19) a b c page
    word_18 = branch_goes (not (a == q.registers 12)) r 18 28 19 a b c page 0x4180_0044 0x4180_006C refl refl refl

    -- 19 lui x30,0x42000
    pub word_19 : after_word r 19 a b c page ≡ here r 20 a 0x4200_0000 c page
    word_19 = x30 r 20 a b c 0x4200_0000 page

    -- 20 ld x29,0(x30)
    pub word_20 : after_word r 20 a 0x4200_0000 c page ≡ here r 21 (loaded r.shared 0x4200_0000 8) 0x4200_0000 c page
    unfolding all_from loaded
    word_20 = x29 r 21 a 0x4200_0000 c (loaded r.shared 0x4200_0000 8) page

    -- 21 addi x29,x29,1
    pub word_21 : after_word r 21 a b c page ≡ here r 22 (wrap (a + 1)) b c page
    word_21 = x29 r 22 a b c (wrap (a + 1)) page

    -- 22 sd x29,0(x30)
    pub word_22 : after_word r 22 a 0x4200_0000 c page ≡ here (linked r 0x4200_0000 a) 23 a 0x4200_0000 c page
    unfolding all_from
    word_22 = refl

    -- 23 ld x29,X29(x0)
    pub word_23 : after_word r 23 a b c page ≡ here r 24 (loaded page (2 ^ 64 - 24) 8) b c page
    unfolding all_from loaded
    word_23 = x29 r 24 a b c (loaded page (2 ^ 64 - 24) 8) page

    -- 24 ld x30,X30(x0)
    pub word_24 : after_word r 24 a b c page ≡ here r 25 a (loaded page (2 ^ 64 - 16) 8) c page
    unfolding all_from loaded
    word_24 = x30 r 25 a b c (loaded page (2 ^ 64 - 16) 8) page

    -- 25 ld x31,X31(x0)
    pub word_25 : after_word r 25 a b c page ≡ here r 26 a b (loaded page (2 ^ 64 - 8) 8) page
    unfolding all_from loaded
    word_25 = x31 r 26 a b c (loaded page (2 ^ 64 - 8) 8) page

    -- 28 hstop
    pub word_28 : after_word r 28 a b c page ≡ here (stopped r) 29 a b c page
    word_28 = refl

    -- 29 lui x30,0x42000
    pub word_29 : after_word r 29 a b c page ≡ here r 30 a 0x4200_0000 c page
    word_29 = x30 r 30 a b c 0x4200_0000 page

    -- 30 sd x0,0(x30)
    pub word_30 : after_word r 30 a 0x4200_0000 c page ≡ here (linked r 0x4200_0000 0) 31 a 0x4200_0000 c page
    unfolding all_from
    word_30 = refl

    -- 31 sd x0,8(x30)
    pub word_31 : after_word r 31 a 0x4200_0000 c page ≡ here (linked r 0x4200_0008 0) 32 a 0x4200_0000 c page
    unfolding all_from
    word_31 = refl

    -- 32 lui x31,0x42001
    pub word_32 : after_word r 32 a b c page ≡ here r 33 a b 0x4200_1000 page
    word_32 = x31 r 33 a b c 0x4200_1000 page

    -- 33 hsite x30
    pub word_33 : after_word r 33 a b c page ≡ here r 34 a q.pc c page
    word_33 = x30 r 34 a b c q.pc page

    -- 34 sd x30,0(x31)
    pub word_34 : after_word r 34 a b 0x4200_1000 page ≡ here (linked r 0x4200_1000 b) 35 a b 0x4200_1000 page
    unfolding all_from
    word_34 = refl

    -- 35 ld x30,X30(x0)
    pub word_35 : after_word r 35 a b c page ≡ here r 36 a (loaded page (2 ^ 64 - 16) 8) c page
    unfolding all_from loaded
    word_35 = x30 r 36 a b c (loaded page (2 ^ 64 - 16) 8) page

    -- 36 ld x29,X29(x0)
    pub word_36 : after_word r 36 a b c page ≡ here r 37 (loaded page (2 ^ 64 - 24) 8) b c page
    unfolding all_from loaded
    word_36 = x29 r 37 a b c (loaded page (2 ^ 64 - 24) 8) page

    -- 67 ld x30,X31(x0)
    pub word_67 : after_word r 67 a b c page ≡ here r 68 a (loaded page (2 ^ 64 - 8) 8) c page
    unfolding all_from loaded
    word_67 = x30 r 68 a b c (loaded page (2 ^ 64 - 8) 8) page

    -- 68 sd x30,248(x31)
    pub word_68 : after_word r 68 a b 0x4200_1000 page ≡ here (linked r 0x4200_10F8 b) 69 a b 0x4200_1000 page
    unfolding all_from
    word_68 = refl

    -- 69 ld x30,X30(x0)
    pub word_69 : after_word r 69 a b c page ≡ here r 70 a (loaded page (2 ^ 64 - 16) 8) c page
    unfolding all_from loaded
    word_69 = x30 r 70 a b c (loaded page (2 ^ 64 - 16) 8) page

    -- 70 hrestart: the shadow runs from the helper RESTART on, with the own descriptors
    pub word_70 : after_word r 70 a b c page ≡ at q (restarted_tally q t) (restarted w (at q t r 70 a b c page)) 71 a b c page
    word_70 = refl

    -- 71 jal x0,->25
    pub word_71 : after_word r 71 a b c page ≡ here r 25 a b c page
    word_71 = refl

  -- ---- words whose place is known but for a number

  -- a load of 8 bytes of the link
  link_load : (r : Run) (rd a b c k place : ℕ) (page : Memory) (pc : ℕ) → place % 8 ≡ 0 → 0x4200_0000 ≤ place → place + 8 ≤ 0x4200_2000
      → stub_after w x (here r k a b c page) (load_effect stub_rights (stub_sees r.shared page) Ld (three q.registers a b c) pc rd place)
      ≡ stub_after w x (here r k a b c page) (steps_on (with_reg (three q.registers a b c) rd (loaded r.shared place 8)) pc)
  link_load r rd a b c k place page pc h l m =
      ap₂ (λ (e f : Bool). stub_after w x (here r k a b c page) (load_if e f (stub_sees r.shared page) Ld (three q.registers a b c) pc rd place))
      (eq-eqb (place % 8) 0 h) (link_bytes place 8 l m)
      ∙ ap (λ (v : ℕ). stub_after w x (here r k a b c page) (steps_on (with_reg (three q.registers a b c) rd v) pc)) (loaded-shared r.shared page place 8 (omega arith))

  -- a load of 8 bytes of a pair
  log_load : (r : Run) (a b c k offset : ℕ) (page : Memory) (pc : ℕ) → InLog c → offset % 8 ≡ 0 → offset < 280
      → stub_after w x (here r k a b c page) (load_effect stub_rights (stub_sees r.shared page) Ld (three q.registers a b c) pc 29 (wrap (c + offset)))
      ≡ stub_after w x (here r k a b c page) (steps_on (with_reg (three q.registers a b c) 29 (loaded r.shared (c + offset) 8)) pc)
  log_load r a b c k offset page pc l h m =
      let below : l.entry < 64 = l.below in
      let place : wrap (c + offset) ≡ c + offset = omega (arith, l.is) in
      ap (λ (p : ℕ). stub_after w x (here r k a b c page) (load_effect stub_rights (stub_sees r.shared page) Ld (three q.registers a b c) pc 29 p)) place
      ∙ link_load r 29 a b c k (c + offset) page pc (omega (arith, l.is)) (omega (arith, l.is)) (omega (arith, l.is))

  module _ (r : Run) (a b c : ℕ) (page : Memory) (l : InLog c) where
    -- 14 ld x29,256(x31)
    pub word_14 : after_word r 14 a b c page ≡ here r 15 (loaded r.shared (c + 256) 8) b c page
    word_14 = log_load r a b c 14 256 page 0x4180_0034 l refl (lit< tt) ∙ x29 r 15 a b c (loaded r.shared (c + 256) 8) page

    -- 17 ld x29,264(x31)
    pub word_17 : after_word r 17 a b c page ≡ here r 18 (loaded r.shared (c + 264) 8) b c page
    word_17 = log_load r a b c 17 264 page 0x4180_0040 l refl (lit< tt) ∙ x29 r 18 a b c (loaded r.shared (c + 264) 8) page

  -- a store of 8 bytes to the link
  link_store : (r : Run) (a b c k place v : ℕ) (page : Memory) → place % 8 ≡ 0 → 0x4200_0000 ≤ place → place + 8 ≤ 0x4200_2000
      → stub_after w x (here r k a b c page) (store_effect stub_rights place 8 v)
      ≡ record (here r k a b c page) { shared = stored r.shared place 8 v; own = record q { registers = three q.registers a b c; pc = wrap (0x417F_FFFC + 4 * k + 4) } }
  link_store r a b c k place v page h l m =
      ap₂ (λ (e f : Bool). stub_after w x (here r k a b c page) (store_if e f place 8 v)) (eq-eqb (place % 8) 0 h) (link_bytes place 8 l m)
      ∙ ap (λ (p : Bool). stub_stores p (here r k a b c page) place 8 v) (not_private place (omega arith))

  -- register j + 1 has gone into the box
  abbrev pub boxed_in : Run → ℕ → ℕ → ℕ → Run
  boxed_in r a b j = linked r (0x4200_1000 + 8 * suc j) (three q.registers a b 0x4200_1000 (suc j))

  -- 37 to 66 sd xi,8i(x31), for i = j + 1
  pub word_37-66 : (r : Run) (a b j : ℕ) (page : Memory) → j < 30 → after_word r (37 + j) a b 0x4200_1000 page ≡ here (boxed_in r a b j) (38 + j) a b 0x4200_1000 page
  word_37-66 r a b j page h =
      let v : ℕ = three q.registers a b 0x4200_1000 (suc j) in
      let place : plus_int 0x4200_1000 (pos (8 * suc j)) ≡ 0x4200_1000 + 8 * suc j = omega arith in
      let next : wrap (0x417F_FFFC + 4 * (37 + j) + 4) ≡ 0x417F_FFFC + 4 * (38 + j) = omega arith in
      ap (λ o. stub_at w x (here r (37 + j) a b 0x4200_1000 page) o) (stub_box j h)
      ∙ ap (λ (p : ℕ). stub_after w x (here r (37 + j) a b 0x4200_1000 page) (store_effect stub_rights p 8 v)) place
      ∙ link_store r a b 0x4200_1000 (37 + j) (0x4200_1000 + 8 * suc j) v page (omega arith) (omega arith) (omega arith)
      ∙ ap (λ (n : ℕ). record (here (linked r (0x4200_1000 + 8 * suc j) v) 0 a b 0x4200_1000 page) { own = record q { registers = three q.registers a b 0x4200_1000; pc = n } }) next
