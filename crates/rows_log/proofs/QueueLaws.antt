-- What a word of APPEND, a word that leaves the link, a store of the head and a call make of the hint log.
use Rattle.std.proofs.Common.{◌≡◌, ℕ, zero, suc, ◌+◌, ◌-◌, ◌*◌, ◌%◌, ◌^◌, ◌<◌, ◌≤◌, ◌⊎◌, inl, inr, refl, ◌∙◌, ap, ap₂, sym, subst, arith}
use Rattle.std.proofs.lemmas.Bool.Decides.{nat_tests}
use Rattle.spec_base.specs.Word.{byte_of}
use Rattle.spec_base.specs.Layout.{link_start, table_start}
use Rattle.rv_model.specs.Memory.{Memory, patched, stored, loaded}
use Rattle.rv_model.proofs.Loads.{loaded-below_patch, loaded-above_patch, loaded-stored}
use Rattle.code_model.specs.Log.{log_head, log_tail, log_place, logged, IsQueue}
use Rattle.rows_log.specs.Queue.{HasRoom, LeavesLink, leaves, puts_key, puts_count, raises_tail, KeepsQueue, StepsKeepQueue, LeavingKeepsQueue, TakingKeepsQueue, HeadTakes, StepsLeaveBox}

-- ---- a store at the place of a pair, which isn't that of head or tail

module _ (m : Memory) (a v : ℕ) (above : link_start + 16 ≤ a) where
  pub head-above : log_head (stored m a 8 v) ≡ log_head m
  head-above = loaded-below_patch m a 8 (byte_of v) link_start 8 (omega arith)

  pub tail-above : log_tail (stored m a 8 v) ≡ log_tail m
  tail-above = loaded-below_patch m a 8 (byte_of v) (link_start + 8) 8 (omega arith)

  pub room-above : HasRoom m → HasRoom (stored m a 8 v)
  room-above r = record { order = omega (arith, head-above, tail-above, r.order); room = omega (arith, head-above, tail-above, r.room) }

-- a number elsewhere than a store of 8 bytes
pub loaded-apart : (m : Memory) (a v b : ℕ) → (b + 8 ≤ a) ⊎ (a + 8 ≤ b) → loaded (stored m a 8 v) b 8 ≡ loaded m b 8
loaded-apart m a v b (inl h) = loaded-below_patch m a 8 (byte_of v) b 8 h
loaded-apart m a v b (inr h) = loaded-above_patch m a 8 (byte_of v) b 8 h

-- a pair is left by a store at the place of another
pair-apart : (m : Memory) (i n d v : ℕ) → (d ≡ 0) ⊎ (d ≡ 8) → (n % 64 < i % 64) ⊎ (i % 64 < n % 64) → logged (stored m (log_place n + d) 8 v) i ≡ logged m i
pair-apart m i n d v o (inl h) =
    ap₂ (λ (x y : ℕ). (x, y)) (loaded-apart m (log_place n + d) v (log_place i) (inr (far o h))) (loaded-apart m (log_place n + d) v (log_place i + 8) (inr (let k : log_place n + d + 8 ≤ log_place i = far o h in omega arith)))
  where
    far : (d ≡ 0) ⊎ (d ≡ 8) → n % 64 < i % 64 → log_place n + d + 8 ≤ log_place i
    far (inl e) h = omega arith
    far (inr e) h = omega arith
pair-apart m i n d v o (inr h) =
    ap₂ (λ (x y : ℕ). (x, y)) (loaded-apart m (log_place n + d) v (log_place i) (inl (let k : log_place i + 16 ≤ log_place n + d = omega arith in omega arith))) (loaded-apart m (log_place n + d) v (log_place i + 8) (inl (omega arith)))

-- two pairs of a queue that isn't full have other places
other-place : (i n : ℕ) → i < n → n < i + 64 → (n % 64 < i % 64) ⊎ (i % 64 < n % 64)
other-place i n h k = by_order (n % 64) (i % 64) (omega arith)
  where
    by_order : (x y : ℕ) → (x ≡ y → ⊥) → (x < y) ⊎ (y < x)
    by_order x y d = grind (arith, nat_tests)

-- ---- words

module _ (m m' : Memory) (small : log_tail m < 2 ^ 64) where
  -- a memory with the same head, tail and pairs
  alike : IsQueue m → log_head m' ≡ log_head m → log_tail m' ≡ log_tail m → ((i : ℕ) → log_head m ≤ i → i < log_tail m → logged m' i ≡ logged m i) → KeepsQueue m m'
  alike q h t f =
      record {
        queue = record { order = omega (arith, h, t, q.order); most = omega (arith, h, t, q.most) };
        appends = record { head = h; tail = omega (arith, t); below = omega (arith, t, small); pairs = f };
        one = omega (arith, t);
      }

-- a store at the place of the next pair
stores-pair : (m : Memory) (d v : ℕ) → IsQueue m → log_tail m < 2 ^ 64 → HasRoom m → (d ≡ 0) ⊎ (d ≡ 8) → KeepsQueue m (stored m (log_place (log_tail m) + d) 8 v)
stores-pair m d v q small r o =
    alike m (stored m (log_place (log_tail m) + d) 8 v) small q (head-above m (log_place (log_tail m) + d) v (omega arith)) (tail-above m (log_place (log_tail m) + d) v (omega arith))
    (λ i l u. pair-apart m i (log_tail m) d v o (other-place i (log_tail m) u (omega (arith, r.room, l))))

-- the tail is raised
raises : (m : Memory) → IsQueue m → log_tail m < 2 ^ 64 - 1 → HasRoom m → KeepsQueue m (stored m (link_start + 8) 8 (log_tail m + 1))
raises m q small r =
    let v : ℕ = log_tail m + 1 in
    let new : Memory = stored m (link_start + 8) 8 v in
    let head : log_head new ≡ log_head m = loaded-below_patch m (link_start + 8) 8 (byte_of v) link_start 8 (omega arith) in
    let tail : log_tail new ≡ v = loaded-stored m (link_start + 8) v (omega arith) in
    record {
      queue = record { order = omega (arith, head, tail, r.order); most = omega (arith, head, tail, r.room) };
      appends = record {
        head = head;
        tail = omega (arith, tail);
        below = omega (arith, tail);
        pairs = λ i l u. ap₂ (λ (x y : ℕ). (x, y)) (loaded-above_patch m (link_start + 8) 8 (byte_of v) (log_place i) 8 (omega arith)) (loaded-above_patch m (link_start + 8) 8 (byte_of v) (log_place i + 8) 8 (omega arith));
      };
      one = omega (arith, tail);
    }

pub steps-keep : StepsKeepQueue
steps-keep count place m m' q small (leaves e) =
    subst (KeepsQueue m) (sym e) (alike m m (omega arith) q refl refl (λ i l u. refl))
steps-keep count place m m' q small (puts_key key e r f) =
    let at : log_place (log_tail m) + 0 ≡ log_place (log_tail m) = omega arith in
    subst (KeepsQueue m) (ap (λ (a : ℕ). stored m a 8 key) at ∙ sym f) (stores-pair m 0 key q (omega arith) r (inl refl))
steps-keep count place m m' q small (puts_count e r f) = subst (KeepsQueue m) (sym f) (stores-pair m 8 count q (omega arith) r (inr refl))
steps-keep count place m m' q small (raises_tail key e r p f) = subst (KeepsQueue m) (sym f) (raises m q small r)

-- a store of 8 bytes leaves all behind it
stored-behind : (m : Memory) (base v a : ℕ) → base + 8 ≤ a → stored m base 8 v a ≡ m a
unfolding patched
stored-behind m base v a h = grind (arith, nat_tests)

pub steps-leave_box : StepsLeaveBox
steps-leave_box count place m m' (leaves e) a h = ap (λ (m : Memory). m a) e
steps-leave_box count place m m' (puts_key key p r e) a h = ap (λ (m : Memory). m a) e ∙ stored-behind m (log_place (log_tail m)) key a (omega arith)
steps-leave_box count place m m' (puts_count p r e) a h = ap (λ (m : Memory). m a) e ∙ stored-behind m (log_place (log_tail m) + 8) count a (omega arith)
steps-leave_box count place m m' (raises_tail key p r k e) a h = ap (λ (m : Memory). m a) e ∙ stored-behind m (link_start + 8) (log_tail m + 1) a (omega arith)

-- ---- words that leave the link

-- a number below the table is left
pub loaded-left : (m m' : Memory) → LeavesLink m m' → (a k : ℕ) → a + k ≤ table_start → loaded m' a k ≡ loaded m a k
unfolding loaded
loaded-left m m' f a zero h = refl
loaded-left m m' f a (suc k) h = ap₂ (λ (x y : ℕ). x + 256 * y) (f a (omega arith)) (loaded-left m m' f (a + 1) k (omega arith))

pub leaving-keeps : LeavingKeepsQueue
leaving-keeps m m' q small f =
    alike m m' small q (loaded-left m m' f link_start 8 (omega arith)) (loaded-left m m' f (link_start + 8) 8 (omega arith))
    (λ i l u. ap₂ (λ (x y : ℕ). (x, y)) (loaded-left m m' f (log_place i) 8 (omega arith)) (loaded-left m m' f (log_place i + 8) 8 (omega arith)))

-- ---- pairs are taken

pub taking-keeps : TakingKeepsQueue
taking-keeps m m' q t = record { order = omega (arith, t.tail, t.most); most = omega (arith, t.tail, t.rises, q.most) }

pub head-takes : HeadTakes
head-takes m head up most small =
    let new : Memory = stored m link_start 8 head in
    let at : log_head new ≡ head = loaded-stored m link_start head small in
    record {
      rises = omega (arith, at);
      most = omega (arith, at);
      tail = loaded-above_patch m link_start 8 (byte_of head) (link_start + 8) 8 (omega arith);
      pairs = λ i. ap₂ (λ (x y : ℕ). (x, y)) (loaded-above_patch m link_start 8 (byte_of head) (log_place i) 8 (omega arith)) (loaded-above_patch m link_start 8 (byte_of head) (log_place i + 8) 8 (omega arith));
    }
