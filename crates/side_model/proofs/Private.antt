-- The eight private places in the private page.
use Rattle.std.proofs.Common.{◌≡◌, ℕ, ◌+◌, ◌-◌, ◌^◌, ◌<◌, ◌≤◌, Bool, true, false, ◌==◌, Some, None, refl, ◌∙◌, ap, sym, subst, arith}
use Rattle.std.proofs.lemmas.Bool.Decides.{nat_tests}
use Rattle.spec_base.specs.Word.{byte_of}
use Rattle.rv_model.specs.Memory.{Memory, stored, loaded}
use Rattle.rv_model.proofs.Loads.{loaded-below_patch, loaded-above_patch, loaded-stored}
use Rattle.side_model.specs.Hart.{Priv, get_private, put_private, is_place}
use Rattle.side_model.specs.Sees.{HasPriv}

-- the numbers that a page has
abbrev pub priv_of : Memory → Priv
priv_of page =
    record {
      x31 = loaded page (2 ^ 64 - 8) 8;
      x30 = loaded page (2 ^ 64 - 16) 8;
      x29 = loaded page (2 ^ 64 - 24) 8;
      x28 = loaded page (2 ^ 64 - 32) 8;
      adr = loaded page (2 ^ 64 - 40) 8;
      ret = loaded page (2 ^ 64 - 48) 8;
      ent = loaded page (2 ^ 64 - 56) 8;
      val = loaded page (2 ^ 64 - 64) 8;
    }

-- it has them
pub HasPriv-of : (page : Memory) → HasPriv page (priv_of page)
HasPriv-of page = record { x31 = refl; x30 = refl; x29 = refl; x28 = refl; adr = refl; ret = refl; ent = refl; val = refl }

-- what a property of each of the eight addresses gives for a place
module _ (P : ℕ → Type 0) (p8 : P (2 ^ 64 - 8)) (p16 : P (2 ^ 64 - 16)) (p24 : P (2 ^ 64 - 24)) (p32 : P (2 ^ 64 - 32))
    (p40 : P (2 ^ 64 - 40)) (p48 : P (2 ^ 64 - 48)) (p56 : P (2 ^ 64 - 56)) (p64 : P (2 ^ 64 - 64)) where
  pub by_place : (a : ℕ) → is_place a ≡ true → P a
  by_place a h =
      one (2 ^ 64 - 8) p8 (λ e1. one (2 ^ 64 - 16) p16 (λ e2. one (2 ^ 64 - 24) p24 (λ e3. one (2 ^ 64 - 32) p32 (λ e4.
      one (2 ^ 64 - 40) p40 (λ e5. one (2 ^ 64 - 48) p48 (λ e6. one (2 ^ 64 - 56) p56 (λ e7. one (2 ^ 64 - 64) p64 (λ e8. nowhere e1 e2 e3 e4 e5 e6 e7 e8))))))))
    where
      one : (n : ℕ) → P n → ((a == n) ≡ false → P a) → P a
      one n x f = go (a == n) refl
        where
          go : (b : Bool) → (a == n) ≡ b → P a
          go true e = let k : a ≡ n = grind (arith, nat_tests) in subst P (sym k) x
          go false e = f e

      nowhere : (a == 2 ^ 64 - 8) ≡ false → (a == 2 ^ 64 - 16) ≡ false → (a == 2 ^ 64 - 24) ≡ false → (a == 2 ^ 64 - 32) ≡ false
          → (a == 2 ^ 64 - 40) ≡ false → (a == 2 ^ 64 - 48) ≡ false → (a == 2 ^ 64 - 56) ≡ false → (a == 2 ^ 64 - 64) ≡ false → P a
      nowhere e1 e2 e3 e4 e5 e6 e7 e8 = let k : false ≡ true = rw (e1, e2, e3, e4, e5, e6, e7, e8) at h in absurd (no k)
        where
          no : false ≡ true → ⊥
          no e = cc

-- an address at which a number is found is a place
pub get_private-place : (a v : ℕ) (p : Priv) → get_private a p ≡ Some v → is_place a ≡ true
get_private-place a v p h =
    by_tests (a == 2 ^ 64 - 8) refl (a == 2 ^ 64 - 16) refl (a == 2 ^ 64 - 24) refl (a == 2 ^ 64 - 32) refl (a == 2 ^ 64 - 40) refl (a == 2 ^ 64 - 48) refl (a == 2 ^ 64 - 56) refl (a == 2 ^ 64 - 64) refl
  where
    by_tests : (b1 : Bool) → (a == 2 ^ 64 - 8) ≡ b1 → (b2 : Bool) → (a == 2 ^ 64 - 16) ≡ b2 → (b3 : Bool) → (a == 2 ^ 64 - 24) ≡ b3 → (b4 : Bool) → (a == 2 ^ 64 - 32) ≡ b4
        → (b5 : Bool) → (a == 2 ^ 64 - 40) ≡ b5 → (b6 : Bool) → (a == 2 ^ 64 - 48) ≡ b6 → (b7 : Bool) → (a == 2 ^ 64 - 56) ≡ b7 → (b8 : Bool) → (a == 2 ^ 64 - 64) ≡ b8
        → is_place a ≡ true
    by_tests true e1 b2 e2 b3 e3 b4 e4 b5 e5 b6 e6 b7 e7 b8 e8 = rw e1 refl
    by_tests false e1 true e2 b3 e3 b4 e4 b5 e5 b6 e6 b7 e7 b8 e8 = rw (e1, e2) refl
    by_tests false e1 false e2 true e3 b4 e4 b5 e5 b6 e6 b7 e7 b8 e8 = rw (e1, e2, e3) refl
    by_tests false e1 false e2 false e3 true e4 b5 e5 b6 e6 b7 e7 b8 e8 = rw (e1, e2, e3, e4) refl
    by_tests false e1 false e2 false e3 false e4 true e5 b6 e6 b7 e7 b8 e8 = rw (e1, e2, e3, e4, e5) refl
    by_tests false e1 false e2 false e3 false e4 false e5 true e6 b7 e7 b8 e8 = rw (e1, e2, e3, e4, e5, e6) refl
    by_tests false e1 false e2 false e3 false e4 false e5 false e6 true e7 b8 e8 = rw (e1, e2, e3, e4, e5, e6, e7) refl
    by_tests false e1 false e2 false e3 false e4 false e5 false e6 false e7 true e8 = rw (e1, e2, e3, e4, e5, e6, e7, e8) refl
    by_tests false e1 false e2 false e3 false e4 false e5 false e6 false e7 false e8 =
        let k : None ≡ Some v = rw (e1, e2, e3, e4, e5, e6, e7, e8) at h in absurd (no k)
      where
        no : None ≡ Some v → ⊥
        no e = cc

-- at a place the page has the number
abbrev Found : Memory → Priv → ℕ → Type 0
Found page p a = get_private a p ≡ Some (loaded page a 8)

found : (page : Memory) (p : Priv) (a : ℕ) → HasPriv page p → is_place a ≡ true → Found page p a
found page p a h e =
    by_place (Found page p) (ap Some (sym h.x31)) (ap Some (sym h.x30)) (ap Some (sym h.x29)) (ap Some (sym h.x28)) (ap Some (sym h.adr)) (ap Some (sym h.ret)) (ap Some (sym h.ent)) (ap Some (sym h.val)) a e

-- a number that is found is loaded
pub private-loads : (page : Memory) (p : Priv) (a v : ℕ) → HasPriv page p → get_private a p ≡ Some v → loaded page a 8 ≡ v
private-loads page p a v h e = same (loaded page a 8) v (sym (found page p a h (get_private-place a v p e)) ∙ e)
  where
    same : (x y : ℕ) → Some x ≡ Some y → x ≡ y
    same x y k = cc

-- behind a store at a place the page has the number that was stored there
pub HasPriv-stored : (page : Memory) (p : Priv) (a v : ℕ) → v < 2 ^ 64 → HasPriv page p → is_place a ≡ true → HasPriv (stored page a 8 v) (put_private a v p)
HasPriv-stored page p a v small h e =
    by_place (λ a. HasPriv (stored page a 8 v) (put_private a v p))
    (record { x31 = same _; x30 = below _ _ (omega arith) ∙ h.x30; x29 = below _ _ (omega arith) ∙ h.x29; x28 = below _ _ (omega arith) ∙ h.x28; adr = below _ _ (omega arith) ∙ h.adr; ret = below _ _ (omega arith) ∙ h.ret; ent = below _ _ (omega arith) ∙ h.ent; val = below _ _ (omega arith) ∙ h.val })
    (record { x31 = above _ _ (omega arith) ∙ h.x31; x30 = same _; x29 = below _ _ (omega arith) ∙ h.x29; x28 = below _ _ (omega arith) ∙ h.x28; adr = below _ _ (omega arith) ∙ h.adr; ret = below _ _ (omega arith) ∙ h.ret; ent = below _ _ (omega arith) ∙ h.ent; val = below _ _ (omega arith) ∙ h.val })
    (record { x31 = above _ _ (omega arith) ∙ h.x31; x30 = above _ _ (omega arith) ∙ h.x30; x29 = same _; x28 = below _ _ (omega arith) ∙ h.x28; adr = below _ _ (omega arith) ∙ h.adr; ret = below _ _ (omega arith) ∙ h.ret; ent = below _ _ (omega arith) ∙ h.ent; val = below _ _ (omega arith) ∙ h.val })
    (record { x31 = above _ _ (omega arith) ∙ h.x31; x30 = above _ _ (omega arith) ∙ h.x30; x29 = above _ _ (omega arith) ∙ h.x29; x28 = same _; adr = below _ _ (omega arith) ∙ h.adr; ret = below _ _ (omega arith) ∙ h.ret; ent = below _ _ (omega arith) ∙ h.ent; val = below _ _ (omega arith) ∙ h.val })
    (record { x31 = above _ _ (omega arith) ∙ h.x31; x30 = above _ _ (omega arith) ∙ h.x30; x29 = above _ _ (omega arith) ∙ h.x29; x28 = above _ _ (omega arith) ∙ h.x28; adr = same _; ret = below _ _ (omega arith) ∙ h.ret; ent = below _ _ (omega arith) ∙ h.ent; val = below _ _ (omega arith) ∙ h.val })
    (record { x31 = above _ _ (omega arith) ∙ h.x31; x30 = above _ _ (omega arith) ∙ h.x30; x29 = above _ _ (omega arith) ∙ h.x29; x28 = above _ _ (omega arith) ∙ h.x28; adr = above _ _ (omega arith) ∙ h.adr; ret = same _; ent = below _ _ (omega arith) ∙ h.ent; val = below _ _ (omega arith) ∙ h.val })
    (record { x31 = above _ _ (omega arith) ∙ h.x31; x30 = above _ _ (omega arith) ∙ h.x30; x29 = above _ _ (omega arith) ∙ h.x29; x28 = above _ _ (omega arith) ∙ h.x28; adr = above _ _ (omega arith) ∙ h.adr; ret = above _ _ (omega arith) ∙ h.ret; ent = same _; val = below _ _ (omega arith) ∙ h.val })
    (record { x31 = above _ _ (omega arith) ∙ h.x31; x30 = above _ _ (omega arith) ∙ h.x30; x29 = above _ _ (omega arith) ∙ h.x29; x28 = above _ _ (omega arith) ∙ h.x28; adr = above _ _ (omega arith) ∙ h.adr; ret = above _ _ (omega arith) ∙ h.ret; ent = above _ _ (omega arith) ∙ h.ent; val = same _ })
    a e
  where
    same : (b : ℕ) → loaded (stored page b 8 v) b 8 ≡ v
    same b = loaded-stored page b v small

    below : (b c : ℕ) → c + 8 ≤ b → loaded (stored page b 8 v) c 8 ≡ loaded page c 8
    below b c k = loaded-below_patch page b 8 (byte_of v) c 8 k

    above : (b c : ℕ) → b + 8 ≤ c → loaded (stored page b 8 v) c 8 ≡ loaded page c 8
    above b c k = loaded-above_patch page b 8 (byte_of v) c 8 k
