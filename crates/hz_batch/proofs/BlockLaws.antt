-- Blocks one after the other: their patterns, and the planes.
use Rattle.std.proofs.Common.{◌≡◌, ◌∙◌, refl, sym, ap, subst, ℕ, zero, suc, ◌+◌, ◌-◌, ◌*◌, ◌/◌, ◌%◌, ◌^◌, ◌<◌, ◌≤◌, List, ◌++◌, length, take, drop, min, arith, inl, inr, add-one}
use Rattle.std.specs.Prelude.{◌⊎◌}
use Rattle.std.proofs.lemmas.Bool.{cases_lt}
use Rattle.std.proofs.lemmas.List.{length-drop, take_all, take_at, take-append-drop, take-take, drop-take}
use Rattle.hz_core.specs.Netlist.{Netlist}
use Rattle.hz_pattern_text.specs.PatternValue.{PatternsOf}
use Rattle.hz_plane.specs.declared.stage.Stage.TheVariants.{Settled as AllSettled}
use Rattle.hz_plane.specs.View.{Seen}
use Rattle.hz_batch.specs.Blocks.{block_count, block_of, lanes_with, planes_after}

-- a list written back whole
pub written-whole : {X : Type 0} (old new : List X) (n : ℕ) → length new ≡ n → take n (new ++ drop (length new) old) ≡ new
written-whole old new n long = take_at new (drop (length new) old) n long

-- the last block may be shorter
pub fewer : {X : Type 0} (all : List X) (first n : ℕ) → n ≡ min (length all - first) 512 → take n (drop first all) ≡ take 512 (drop first all)
fewer all first n is = by_length (cases_lt 512 (length all - first))
  where
    by_length : (512 < length all - first) ⊎ (length all - first ≤ 512) → take n (drop first all) ≡ take 512 (drop first all)
    by_length (inl many) = (let same : n ≡ 512 = omega (arith, is, many) in ap (λ (m : ℕ). take m (drop first all)) same)
    by_length (inr few) =
        let same : n ≡ length all - first = omega (arith, is, few) in
        take_all n (drop first all) (omega (arith, length-drop first all, same)) ∙ sym (take_all 512 (drop first all) (omega (arith, length-drop first all, few)))

-- the patterns of one block more
pub take-blocks : {X : Type 0} (all : List X) (block : ℕ) → take (block * 512) all ++ take 512 (drop (block * 512) all) ≡ take ((block + 1) * 512) all
take-blocks all block =
    let n = block * 512 in
    let longer : (block + 1) * 512 ≡ n + 512 = omega arith in
    rw longer (take-then n 512 all)
  where
    take-then : {X : Type 0} (n m : ℕ) (list : List X) → take n list ++ take m (drop n list) ≡ take (n + m) list
    take-then n m list =
        ap (λ (rest : List _). take n list ++ rest) (sym (drop-take n m list))
        ∙ (ap (λ (front : List _). front ++ drop n (take (n + m) list)) (sym (take-take n (n + m) list (omega arith))) ∙ take-append-drop n (take (n + m) list))

-- how far blocks go
pub block-begins : (block n : ℕ) → block < block_count n → block * 512 < n
block-begins block n below = omega (arith, below)

-- as the code counts them
pub blocks-same : (block n : ℕ) → block < n / 512 + min 1 (n % 512) → block < block_count n
blocks-same block n below = omega (arith, below)

pub count-same : (n : ℕ) → n / 512 + min 1 (n % 512) ≡ block_count n
count-same n = omega arith

pub blocks-cover : (block n : ℕ) → block_count n ≤ block → n ≤ block * 512
blocks-cover block n all = omega (arith, all)

-- the planes are still of the network
pub after-of : (netlist : Netlist) (patterns : PatternsOf) (was : Seen) (block : ℕ) → was.netlist ≡ netlist → (planes_after patterns was block).netlist ≡ netlist
after-of netlist patterns was zero of = of
after-of netlist patterns was (suc block) of = of

-- one block more
pub after-next : (patterns : PatternsOf) (was planes now : Seen) (block : ℕ) → planes ≡ planes_after patterns was block →
    now ≡ record planes { stage = AllSettled; settles = min (planes.settles + 1) (2 ^ 64 - 1); lanes = lanes_with patterns.held (block_of patterns.patterns block) } →
    now ≡ planes_after patterns was (block + 1)
after-next patterns was planes now block before is = subst (λ (n : ℕ). now ≡ planes_after patterns was n) (sym (add-one block)) (is ∙ (ap (λ (seen : Seen). record seen { stage = AllSettled; settles = min (seen.settles + 1) (2 ^ 64 - 1); lanes = lanes_with patterns.held (block_of patterns.patterns block) }) before ∙ by_block block))
  where
    by_block : (n : ℕ) → record (planes_after patterns was n) { stage = AllSettled; settles = min ((planes_after patterns was n).settles + 1) (2 ^ 64 - 1); lanes = lanes_with patterns.held (block_of patterns.patterns n) } ≡ planes_after patterns was (suc n)
    by_block zero = refl
    by_block (suc n) =
        let counted : min (min (was.settles + suc n) (2 ^ 64 - 1) + 1) (2 ^ 64 - 1) ≡ min (was.settles + suc (suc n)) (2 ^ 64 - 1) = omega arith in
        ap (λ (count : ℕ). record was { stage = AllSettled; settles = count; lanes = lanes_with patterns.held (block_of patterns.patterns (suc n)) }) counted
