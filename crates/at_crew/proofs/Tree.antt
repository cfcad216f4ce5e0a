-- The arithmetic of nodes: children and parents, spans, and what lies above what.
-- For most public calls of the crate, `claim`, `close`, `new` among them.
use Rattle.std.proofs.Common.{◌≡◌, ◌≢◌, ℕ, zero, suc, ◌+◌, ◌-◌, ◌*◌, ◌/◌, ◌%◌, ◌^◌, ◌<◌, ◌≤◌, refl, sym, ap, ◌∙◌, subst, arith, add-zero, add-one, mul-le-mul_right}
use Rattle.std.proofs.lemmas.Nat.{pow_pos, pow-add}
use native.Mathlib.Decide.{ℕ_discrete}
use Rattle.at_crew.specs.Nodes.{IsNode, first_of, end_of, bit_of, sibling}

pub two : (n : ℕ) → 2 ^ (n + 1) ≡ 2 * 2 ^ n
two n = let e = pow-add 2 n 1 in omega (arith, e)

pub two_suc : (n : ℕ) → 2 ^ suc n ≡ 2 * 2 ^ n
two_suc n = ap (λ x. 2 ^ x) (sym (add-one n)) ∙ two n

-- a node's numbers: it is no less than its level's first, and its span lies within the blocks
pub from_product : (k l h n : ℕ) → IsNode k l h n → k ≤ n * 2 ^ h
from_product k l h n is = let e = is.0 ∙ pow-add 2 l h in let m : 2 ^ l * 2 ^ h ≤ n * 2 ^ h = mul-le-mul_right (2 ^ h) is.1 in omega (arith, e, m)

pub to_product : (k l h n : ℕ) → IsNode k l h n → (n + 1) * 2 ^ h ≤ 2 * k
to_product k l h n is = let e = is.0 ∙ pow-add 2 l h in let t = two l in let b : n + 1 ≤ 2 * 2 ^ l = omega (arith, t, is.2) in
    let m : (n + 1) * 2 ^ h ≤ 2 * 2 ^ l * 2 ^ h = mul-le-mul_right (2 ^ h) b in omega (arith, e, m)

pub node_pos : (k l h n : ℕ) → IsNode k l h n → 0 < n
node_pos k l h n is = let p = pow_pos l in omega (arith, p, is.1)

-- 2 ^ h is at least 1, so a node is less than twice the blocks
pub node_bound : (k l h n : ℕ) → IsNode k l h n → n < 2 * k
node_bound k l h n is = let t = to_product k l h n is in let p : 1 ≤ 2 ^ h = pow_pos h in let m : 1 * (n + 1) ≤ 2 ^ h * (n + 1) = mul-le-mul_right (n + 1) p in omega (arith, t, m)

pub leaf_is_big : (k l n : ℕ) → IsNode k l zero n → k ≤ n
leaf_is_big k l n is = let f = from_product k l zero n is in omega (arith, f)

pub inner_is_small : (k l h n : ℕ) → IsNode k l (suc h) n → n < k
inner_is_small k l h n is = let t = to_product k l (suc h) n is in let e : 2 ^ (suc h) ≡ 2 * 2 ^ h = two_suc h in let p : 1 ≤ 2 ^ h = pow_pos h in
    let m : 1 * (2 * (n + 1)) ≤ 2 ^ h * (2 * (n + 1)) = mul-le-mul_right (2 * (n + 1)) p in
    let t' : (n + 1) * (2 * 2 ^ h) ≤ 2 * k = subst (λ (x : ℕ). (n + 1) * x ≤ 2 * k) e t in omega (arith, t', m)

-- children and parents
pub left_node : (k l h p : ℕ) → IsNode k l (suc h) p → IsNode k (l + 1) h (2 * p)
left_node k l h p is = let e : l + suc h ≡ (l + 1) + h = omega arith in let t = two l in let u = two (l + 1) in (is.0 ∙ ap (λ x. 2 ^ x) e, omega (arith, t, is.1), omega (arith, t, u, is.2))

pub right_node : (k l h p : ℕ) → IsNode k l (suc h) p → IsNode k (l + 1) h (2 * p + 1)
right_node k l h p is = let e : l + suc h ≡ (l + 1) + h = omega arith in let t = two l in let u = two (l + 1) in (is.0 ∙ ap (λ x. 2 ^ x) e, omega (arith, t, is.1), omega (arith, t, u, is.2))

pub parent_node : (k l h n : ℕ) → IsNode k (suc l) h n → IsNode k l (suc h) (n / 2)
parent_node k l h n is = let e : suc l + h ≡ l + suc h = omega arith in let t : 2 ^ (suc l) ≡ 2 * 2 ^ l = two_suc l in let u : 2 ^ (suc l + 1) ≡ 2 * 2 ^ (suc l) = two (suc l) in let v = two l in
    (is.0 ∙ ap (λ x. 2 ^ x) e, omega (arith, t, is.1), omega (arith, t, u, v, is.2))

pub low_is_root : (k h n : ℕ) → IsNode k zero h n → n ≡ 1
low_is_root k h n is = omega (arith, is.1, is.2)

pub leaf_node : (k d i : ℕ) → k ≡ 2 ^ d → i < k → IsNode k d zero (k + i)
leaf_node k d i e lt = let t = two d in (e ∙ ap (λ x. 2 ^ x) (sym (add-zero d)), omega (arith, e), omega (arith, e, t))

pub root_node : (k d : ℕ) → k ≡ 2 ^ d → IsNode k zero d 1
root_node k d e = let z : d ≡ 0 + d = omega arith in (e ∙ ap (λ x. 2 ^ x) z, omega arith, omega arith)

-- spans
pub left_first : (k h p : ℕ) → first_of k h (2 * p) ≡ first_of k (suc h) p
left_first k h p = let t : 2 ^ (suc h) ≡ 2 * 2 ^ h = two_suc h in let e : 2 * p * 2 ^ h ≡ p * 2 ^ (suc h) = (let m : p * 2 ^ (suc h) ≡ p * (2 * 2 ^ h) = ap (λ x. p * x) t in omega (arith, m)) in ap (λ x. x - k) e

pub left_end : (k h p : ℕ) → end_of k h (2 * p) ≡ first_of k h (2 * p + 1)
left_end k h p = refl

pub right_end : (k h p : ℕ) → end_of k h (2 * p + 1) ≡ end_of k (suc h) p
right_end k h p = let t : 2 ^ (suc h) ≡ 2 * 2 ^ h = two_suc h in let e : (2 * p + 1 + 1) * 2 ^ h ≡ (p + 1) * 2 ^ (suc h) = (let m : (p + 1) * 2 ^ (suc h) ≡ (p + 1) * (2 * 2 ^ h) = ap (λ x. (p + 1) * x) t in omega (arith, m)) in ap (λ x. x - k) e

-- block x is one of the node's
abbrev pub Spans : ℕ → ℕ → ℕ → ℕ → Type 0
Spans k h n x = (n * 2 ^ h ≤ k + x) × (k + x < (n + 1) * 2 ^ h)

pub spans_first : (k l h n : ℕ) → IsNode k l h n → Spans k h n (first_of k h n)
spans_first k l h n is = let f = from_product k l h n is in let p = pow_pos h in (omega (arith, f), omega (arith, f, p))

pub first_small : (k l h n : ℕ) → IsNode k l h n → first_of k h n < k
first_small k l h n is = let f = from_product k l h n is in let t = to_product k l h n is in let p = pow_pos h in omega (arith, f, t, p)

pub end_small : (k l h n : ℕ) → IsNode k l h n → end_of k h n ≤ k
end_small k l h n is = let t = to_product k l h n is in omega (arith, t)

-- the first block of the right child is one of the parent's
pub spans_right : (k l h p : ℕ) → IsNode k l (suc h) p → Spans k (suc h) p (first_of k h (2 * p + 1))
spans_right k l h p is = let f = from_product k l (suc h) p is in let t : 2 ^ (suc h) ≡ 2 * 2 ^ h = two_suc h in let q = pow_pos h in
    let m : p * 2 ^ (suc h) ≡ p * (2 * 2 ^ h) = ap (λ x. p * x) t in let m' : (p + 1) * 2 ^ (suc h) ≡ (p + 1) * (2 * 2 ^ h) = ap (λ x. (p + 1) * x) t in
    (omega (arith, f, m, q), omega (arith, f, m, m', t, q))

pub spans_parent : (k h n x : ℕ) → Spans k h n x → Spans k (suc h) (n / 2) x
spans_parent k h n x s = let t : 2 ^ (suc h) ≡ 2 * 2 ^ h = two_suc h in let a : 2 * (n / 2) ≤ n = omega arith in let b : n + 1 ≤ 2 * (n / 2) + 2 = omega arith in
    let ma : 2 * (n / 2) * 2 ^ h ≤ n * 2 ^ h = mul-le-mul_right (2 ^ h) a in let mb : (n + 1) * 2 ^ h ≤ (2 * (n / 2) + 2) * 2 ^ h = mul-le-mul_right (2 ^ h) b in
    let m : n / 2 * 2 ^ (suc h) ≡ n / 2 * (2 * 2 ^ h) = ap (λ x. n / 2 * x) t in let m' : (n / 2 + 1) * 2 ^ (suc h) ≡ (n / 2 + 1) * (2 * 2 ^ h) = ap (λ x. (n / 2 + 1) * x) t in
    (omega (arith, s.0, ma, m), omega (arith, s.1, mb, m'))

-- a span and its height determine the node
pub same_node : (k h n m x : ℕ) → Spans k h n x → Spans k h m x → n ≡ m
same_node k h n m x s t =
    let low : ¬ (n < m) = λ lt. (let p : (n + 1) * 2 ^ h ≤ m * 2 ^ h = mul-le-mul_right (2 ^ h) (omega (arith, lt)) in omega (arith, p, s.1, t.0)) in
    let high : ¬ (m < n) = λ lt. (let p : (m + 1) * 2 ^ h ≤ n * 2 ^ h = mul-le-mul_right (2 ^ h) (omega (arith, lt)) in omega (arith, p, t.1, s.0)) in
    omega (arith, low, high)

-- j steps up
abbrev pub up : ℕ → ℕ → ℕ
up zero n = n
up (suc j) n = up j (n / 2)

pub up_reaches : (k h n m x j : ℕ) → Spans k h n x → Spans k (h + j) m x → up j n ≡ m
up_reaches k h n m x zero s t = same_node k h n m x s (subst (λ (i : ℕ). Spans k i m x) (add-zero h) t)
up_reaches k h n m x (suc j) s t = let e : h + suc j ≡ suc h + j = omega arith in up_reaches k (suc h) (n / 2) m x j (spans_parent k h n x s) (subst (λ (i : ℕ). Spans k i m x) e t)

-- a node has one height
taller : (k l h n l' d : ℕ) → IsNode k l h n → IsNode k l' (h + suc d) n → ⊥
taller k l h n l' d is is' = let f = from_product k l h n is in let t = to_product k l' (h + suc d) n is' in let e = pow-add 2 h (suc d) in let t' : 2 ^ (suc d) ≡ 2 * 2 ^ d = two_suc d in let q = pow_pos d in let r = pow_pos h in
    let two_le : 2 ≤ 2 ^ (suc d) = omega (arith, t', q) in
    let m : 2 * 2 ^ h ≤ 2 ^ (suc d) * 2 ^ h = mul-le-mul_right (2 ^ h) two_le in
    let m' : 2 * 2 ^ h * (n + 1) ≤ 2 ^ (h + suc d) * (n + 1) = mul-le-mul_right (n + 1) (omega (arith, m, e)) in
    omega (arith, f, t, m', r)

pub one_height : (k l h n l' h' : ℕ) → IsNode k l h n → IsNode k l' h' n → h ≡ h'
one_height k l h n l' h' is is' =
    let low : ¬ (h < h') = λ lt. (let e : h' ≡ h + suc (h' - suc h) = omega (arith, lt) in taller k l h n l' (h' - suc h) is (subst (λ (i : ℕ). IsNode k l' i n) e is')) in
    let high : ¬ (h' < h) = λ lt. (let e : h ≡ h' + suc (h - suc h') = omega (arith, lt) in taller k l' h' n l (h - suc h') is' (subst (λ (i : ℕ). IsNode k l i n) e is)) in
    omega (arith, low, high)

pub above_node : (k l h n : ℕ) → IsNode k l h n → 1 < n → (l' : ℕ) × IsNode k l' (suc h) (n / 2)
above_node k zero h n is lt = let e = low_is_root k h n is in absurd (omega (arith, e, lt))
above_node k (suc l) h n is lt = (l, parent_node k l h n is)

pub child_node : (k l h p n : ℕ) → IsNode k l (suc h) p → n / 2 ≡ p → IsNode k (l + 1) h n
child_node k l h p n is e = cases (ℕ_discrete (n % 2) 0)
  where
    cases : Dec (n % 2 ≡ 0) → IsNode k (l + 1) h n
    cases (yes z) = let q : 2 * p ≡ n = omega (arith, e, z) in subst (λ (m : ℕ). IsNode k (l + 1) h m) q (left_node k l h p is)
    cases (no z) = let q : 2 * p + 1 ≡ n = omega (arith, e, z) in subst (λ (m : ℕ). IsNode k (l + 1) h m) q (right_node k l h p is)

pub sibling_parent : (n : ℕ) → sibling n / 2 ≡ n / 2
sibling_parent n = omega arith

pub sibling_other : (n : ℕ) → ¬ (sibling n ≡ n)
sibling_other n e = omega (arith, e)

pub sibling_bit : (n : ℕ) → bit_of (sibling n) + bit_of n ≡ 3
sibling_bit n = omega arith

pub two_children : (n m : ℕ) → m / 2 ≡ n / 2 → m ≢ n → m ≡ sibling n
two_children n m e ne = omega (arith, e, ne)

-- in a tree of at most 4,096 blocks
pub height_small : (k l h n : ℕ) → IsNode k l h n → k ≤ 4096 → h ≤ 12
height_small k l h n is le =
    let low : ¬ (12 < h) = λ lt. (let i : l + h ≡ 13 + (l + h - 13) = omega (arith, lt) in let e = is.0 ∙ ap (λ (j : ℕ). 2 ^ j) i ∙ pow-add 2 13 (l + h - 13) in let p = pow_pos (l + h - 13) in omega (arith, e, p, le)) in
    omega (arith, low)

pub width_small : (k l h n : ℕ) → IsNode k l h n → k ≤ 4096 → 2 ^ h ≤ 8192
width_small k l h n is le = let t = to_product k l h n is in let m : 1 * 2 ^ h ≤ (n + 1) * 2 ^ h = mul-le-mul_right (2 ^ h) (omega arith) in omega (arith, t, m, le)

-- the shift by the height is the width
pub shifted : (k l h n : ℕ) → IsNode k l h n → k ≤ 4096 → 1 * 2 ^ h % 18446744073709551616 ≡ 2 ^ h
shifted k l h n is le = let w = width_small k l h n is le in omega (arith, w)
