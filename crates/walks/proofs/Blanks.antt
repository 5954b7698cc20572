-- The list of elements already on the blank, word by word: the two tests of it, and the marks that it leaves.
-- A test of what is left of the list is the test of the whole; the marks so far are those of the words passed.
use Rattle.std.proofs.Common.{◌≡◌, refl, sym, ap, ◌∙◌, Bool, true, false, cond, ◌&&◌, ◌||◌, List, [], ◌∷◌, ◌++◌, ℕ, suc, ◌+◌, ◌-◌, ◌≤◌, ◌<◌, arith, eqb, ltb, leb, length, get_or, set, take, drop, drop_of_length-le, drop-cons, take-suc, take_all, eq-eqb, ne_eqb, lt-ltb, le-ltb, le-leb, leb-true, leb-false}
use borrow.Author.Tests.{lt-leb}
use Rattle.lists.specs.Members.{memb}
use Rattle.lists.specs.Words.{put}
use Rattle.lists.proofs.Tests.{and_none}
use Rattle.lists.proofs.Members.{memb-append}
use Rattle.lists.proofs.Words.{put-filled, filled-same}
use Rattle.graphs.specs.Refusals.{rises}
use Rattle.graphs.specs.Results.{blank_mark, unless_blank, marks_first}
use Rattle.walks.specs.Writing.{blank_marked}

drop-next : (l : List ℕ) (i : ℕ) → i < length l → drop i l ≡ get_or l i 0 ∷ drop (i + 1) l
drop-next l i h = let e : suc i ≡ i + 1 = omega arith in drop-cons l i 0 h ∙ ap (λ (j : ℕ). get_or l i 0 ∷ drop j l) e

-- ---- in order
module _ (n last i : ℕ) (list : List ℕ) (I : rises n last (drop i list) ≡ rises n 0 list) where
  module _ (h : i < length list) where
    abbrev word : ℕ
    word = get_or list i 0

    next : rises n 0 list ≡ ((ltb last word && leb word n) && rises n word (drop (i + 1) list))
    next = sym I ∙ ap (rises n last) (drop-next list i h)

    pub not-rising : word ≤ last → false ≡ rises n 0 list
    not-rising p = sym (next ∙ ap (λ (b : Bool). (b && leb word n) && rises n word (drop (i + 1) list)) (le-ltb last word p))

    module _ (p : last < word) where
      pub past_all : n < word → false ≡ rises n 0 list
      past_all q = sym (next ∙ (λ j. (lt-ltb last word p j && lt-leb word n q j) && rises n word (drop (i + 1) list)))

      pub rising : word ≤ n → rises n word (drop (i + 1) list) ≡ rises n 0 list
      rising q = sym (next ∙ (λ j. (lt-ltb last word p j && le-leb word n q j) && rises n word (drop (i + 1) list)))

  pub risen : length list ≤ i → true ≡ rises n 0 list
  risen h = sym (sym I ∙ ap (rises n last) (drop_of_length-le list h))

-- ---- an element on the list
module _ (x i : ℕ) (list : List ℕ) (I : memb x (drop i list) ≡ memb x list) where
  module _ (h : i < length list) where
    found : memb x list ≡ (eqb x (get_or list i 0) || memb x (drop (i + 1) list))
    found = sym I ∙ ap (memb x) (drop-next list i h)

    pub is-here : get_or list i 0 ≡ x → true ≡ memb x list
    is-here e = sym (found ∙ ap (λ (b : Bool). b || memb x (drop (i + 1) list)) (eq-eqb x (get_or list i 0) (sym e)))

    pub not-here : (get_or list i 0 ≡ x → ⊥) → memb x (drop (i + 1) list) ≡ memb x list
    not-here ne = sym (found ∙ ap (λ (b : Bool). b || memb x (drop (i + 1) list)) (ne_eqb x (get_or list i 0) (λ e. ne (sym e))))

  pub none_here : length list ≤ i → false ≡ memb x list
  none_here h = sym (sym I ∙ ap (memb x) (drop_of_length-le list h))

-- ---- marks
-- One word of the list more: its mark is stored, and what is no node changes nothing.
pub blank-more : (k : ℕ) (before area : List ℕ) (x : ℕ) → blank_marked k x (marks_first k before area) ≡ marks_first k (before ++ (x ∷ [])) area
blank-more k before area x = go (leb 1 x) (leb x k) refl refl
  where
    join : (a b : Bool) → cond a blank_mark (cond b blank_mark 0) ≡ cond (b || (a || false)) blank_mark 0
    join true true = refl
    join true false = refl
    join false true = refl
    join false false = refl

    value : (y : ℕ) → cond (eqb y x) blank_mark (cond (memb y before) blank_mark 0) ≡ unless_blank (before ++ (x ∷ [])) (λ z. 0) y
    value y = join (eqb y x) (memb y before) ∙ ap (λ (b : Bool). cond b blank_mark 0) (sym (memb-append y before (x ∷ [])))

    skip : ((y : ℕ) → 0 < y → y ≤ k → y ≡ x → ⊥) → marks_first k before area ≡ marks_first k (before ++ (x ∷ [])) area
    skip ne = filled-same (unless_blank before (λ z. 0)) (unless_blank (before ++ (x ∷ [])) (λ z. 0)) k area (λ y a b. ap (λ (c : Bool). cond c blank_mark (cond (memb y before) blank_mark 0)) (sym (ne_eqb y x (ne y a b))) ∙ value y)

    go : (a b : Bool) → leb 1 x ≡ a → leb x k ≡ b → cond (a && b) (put 0 (marks_first k before area) x blank_mark) (marks_first k before area) ≡ marks_first k (before ++ (x ∷ [])) area
    go true true p q = put-filled (unless_blank before (λ z. 0)) k area x blank_mark (leb-true 1 x p) (leb-true x k q) ∙ filled-same _ (unless_blank (before ++ (x ∷ [])) (λ z. 0)) k area (λ y a b. value y)
    go true false p q = let l = leb-false x k q in skip (λ y a b e. omega arith)
    go false b p q = let l = leb-false 1 x p in skip (λ y a b e. omega arith)

pub blanks-more : (k : ℕ) (before area : List ℕ) (i : ℕ) → i < length before → blank_marked k (get_or before i 0) (marks_first k (take i before) area) ≡ marks_first k (take (i + 1) before) area
blanks-more k before area i h = let e : suc i ≡ i + 1 = omega arith in blank-more k (take i before) area (get_or before i 0) ∙ ap (λ (l : List ℕ). marks_first k l area) (sym (take-suc before i 0 h) ∙ ap (λ (j : ℕ). take j before) e)

pub blanks-all : (k : ℕ) (before area : List ℕ) (i : ℕ) → length before ≤ i → marks_first k (take i before) area ≡ marks_first k before area
blanks-all k before area i h = ap (λ (l : List ℕ). marks_first k l area) (take_all i before h)

-- One mark, as the code stores it.
module _ (k x : ℕ) (marks : List ℕ) where
  pub blank-null : x ≡ 0 → marks ≡ blank_marked k x marks
  blank-null e = sym (ap (λ (b : Bool). cond (b && leb x k) (put 0 marks x blank_mark) marks) (lt-leb 1 x (omega arith)))

  pub blank-past : k < x → marks ≡ blank_marked k x marks
  blank-past h = sym (ap (λ (b : Bool). cond b (put 0 marks x blank_mark) marks) (ap (λ (b : Bool). leb 1 x && b) (lt-leb x k h) ∙ and_none (leb 1 x)))

  pub blank-stored : (x ≡ 0 → ⊥) → x ≤ k → set marks (x - 1) 65535 ≡ blank_marked k x marks
  unfolding put
  blank-stored ne h = sym (λ i. cond (le-leb 1 x (omega arith) i && le-leb x k h i) (put 0 marks x blank_mark) marks)
