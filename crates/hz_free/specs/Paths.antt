-- Links from a variable to another one, and paths along them: what a search for feedback cycles finds of each variable.
use Rattle.std.specs.Prelude.{◌≡◌, ℕ, suc, Bool, false, true, ◌<◌, ◌≤◌, ◌⊎◌, Option, Some, None, List, [], ◌∷◌, ◌++◌, length, MatchOption, IsTrue, slice_index, slice_index_or}
use Rattle.hz_net.specs.Network.{Driver, bit_at}
use Rattle.hz_lists.specs.Listed.{is_listed, IsRepeatFree}
use Rattle.hz_free.specs.Chains.{IsFeedbackFree}
use Rattle.hz_free.specs.Feedback.{IsChoice, IsFeedbackCycle}

-- in a list of links, one for each variable, variable i leads to a number
abbrev pub LeadsTo : List (Option ℕ) → ℕ → ℕ → Type 0
LeadsTo links i j = slice_index_or links i None ≡ Some j

-- variable i leads somewhere
abbrev pub IsLink : List (Option ℕ) → ℕ → Type 0
IsLink links i = (j : ℕ) × LeadsTo links i j

-- where a variable leads to is a variable that leads on
pub record AreLinks (links : List (Option ℕ)) : Type 0 where
  pub inside : (i j : ℕ) → LeadsTo links i j → j < length links
  pub on : (i j : ℕ) → LeadsTo links i j → IsLink links j

-- the variables from a start on, each of which leads to the next, and the last to an end
abbrev pub IsPath : List (Option ℕ) → ℕ → List ℕ → ℕ → Type 0
IsPath links start [] end = start ≡ end
IsPath links start (i ∷ path) end =
    (start ≡ i) × (next : ℕ) × LeadsTo links start next × IsPath links next path end

-- A path was followed so far: its variables had no mark, and have one now.
pub record IsPathSoFar (links : List (Option ℕ)) (start mark : ℕ) (path : List ℕ) (end : ℕ)
    (marks marks' : List (Option ℕ)) : Type 0 where
  pub is_path : IsPath links start path end
  pub once : IsRepeatFree path
  pub inside : (i : ℕ) → IsTrue (is_listed path i) → i < length links
  pub fresh : (i : ℕ) → IsTrue (is_listed path i) → slice_index_or marks i None ≡ None
  pub marked : (i : ℕ) → IsTrue (is_listed path i) → LeadsTo marks' i mark
  pub others : (i : ℕ) → is_listed path i ≡ false →
      slice_index_or marks' i None ≡ slice_index_or marks i None

-- A path was followed up to a variable that has a mark.
pub record IsPathToMark (links : List (Option ℕ)) (start mark : ℕ) (path : List ℕ) (end : ℕ)
    (marks marks' : List (Option ℕ)) : Type 0 where
  pub following : IsPathSoFar links start mark path end marks marks'
  pub ended : IsLink marks' end

-- what each variable of a network chooses, and None for the feedback-free ones
pub record AreChoices (net : List Driver) (choices : List (Option ℕ)) : Type 0 where
  pub long : length choices ≡ length net
  pub some : (i j : ℕ) → LeadsTo choices i j → IsChoice net i j
  pub none : (i : ℕ) → i < length net → slice_index_or choices i None ≡ None → IsFeedbackFree net i

-- the same for the variables below a number, as a list that grows
pub record AreChoicesBelow (net : List Driver) (below : ℕ)
    (choices : List (Option ℕ)) : Type 0 where
  pub long : length choices ≡ below
  pub each : (i : ℕ) → i < below →
      MatchOption (slice_index_or choices i None) (IsFeedbackFree net i) (IsChoice net i)

-- The variables below a number have a root: a variable to which choices lead from it, and which a variable chose that was
-- chosen itself.
pub record AreRooted (choices choosers roots : List (Option ℕ)) (below : ℕ) : Type 0 where
  pub choosers_long : length choosers ≡ length choices
  pub roots_long : length roots ≡ length choices
  pub chosen : (i j : ℕ) → LeadsTo choosers j i → LeadsTo choices i j
  pub again : (i j : ℕ) → LeadsTo choosers j i → IsLink choosers i
  pub rooted : (i root : ℕ) → LeadsTo roots i root →
      (path : List ℕ) × IsPath choices i path root × IsLink choosers root
  pub every : (i : ℕ) → i < below → IsLink choices i → IsLink roots i

-- for each variable of some cycles which variable of its cycle chose it
pub record AreChoosers (net : List Driver) (choosers : List (Option ℕ)) : Type 0 where
  pub long : length choosers ≡ length net
  pub links : AreLinks choosers
  pub chosen : (i j : ℕ) → LeadsTo choosers j i → IsChoice net i j

-- The cycles of the variables below a number are listed, and their variables have their numbers.
pub record AreNumbered (net : List Driver) (choosers numbers : List (Option ℕ)) (below : ℕ)
    (cycles : List (List ℕ)) : Type 0 where
  pub each : (number : ℕ) → number < length cycles →
      IsFeedbackCycle net (slice_index_or cycles number [])
  pub earlier : (number : ℕ) → number < length cycles →
      slice_index (slice_index_or cycles number []) 0 < below
  pub ordered : (number : ℕ) → suc number < length cycles →
      slice_index (slice_index_or cycles number []) 0
      < slice_index (slice_index_or cycles (suc number) []) 0
  pub numbered : (i number : ℕ) → LeadsTo numbers i number →
      (number < length cycles) × IsTrue (is_listed (slice_index_or cycles number []) i)
  pub onward : (i j : ℕ) → LeadsTo choosers j i → IsLink numbers i → IsLink numbers j
  pub every : (i : ℕ) → i < below → IsLink choosers i → IsLink numbers i

-- no variable leads anywhere
pub record HasNoLinks (variables : ℕ) (links : List (Option ℕ)) : Type 0 where
  pub long : length links ≡ variables
  pub none : (i : ℕ) → slice_index_or links i None ≡ None

-- the first variable of a range that has no mark
pub record IsFeeding (free : List Bool) (first end var : ℕ) : Type 0 where
  pub from : first ≤ var
  pub before : var < end
  pub feeds : bit_at free var ≡ false
  pub least : (i : ℕ) → first ≤ i → i < var → bit_at free i ≡ true

-- some variables have a value in a list now, and the others have what they had
pub record HaveValue {T : Type 0} (variables : List ℕ) (value : Option T)
    (list list' : List (Option T)) : Type 0 where
  pub listed : (i : ℕ) → IsTrue (is_listed variables i) → slice_index_or list' i None ≡ value
  pub others : (i : ℕ) → is_listed variables i ≡ false →
      slice_index_or list' i None ≡ slice_index_or list i None

-- of some variables each is noted as the one that chose its choice; all else is as it was
pub record HaveChoosers (choices : List (Option ℕ)) (variables : List ℕ)
    (choosers choosers' : List (Option ℕ)) : Type 0 where
  pub each : (i j : ℕ) → LeadsTo choosers' j i →
      LeadsTo choosers j i ⊎ (IsTrue (is_listed variables i) × LeadsTo choices i j)
  pub stays : (j : ℕ) → IsLink choosers j → IsLink choosers' j
  pub noted : (i j : ℕ) → IsTrue (is_listed variables i) → LeadsTo choices i j → IsLink choosers' j

-- The root of the variables of a path that ends in a variable: the end, if it is on the path, and then the part of the path
-- from it on is noted as a cycle; else the root of the end.
abbrev pub HasRoot : List (Option ℕ) → List ℕ → ℕ → List (Option ℕ) → List (Option ℕ) →
    List (Option ℕ) → Option ℕ → Type 0
HasRoot choices path end choosers choosers' roots root =
    ((front : List ℕ) × (cycle : List ℕ) × (path ≡ front ++ end ∷ cycle)
    × HaveChoosers choices (end ∷ cycle) choosers choosers' × (root ≡ Some end))
    ⊎ ((is_listed path end ≡ false) × (choosers' ≡ choosers)
    × (root ≡ slice_index_or roots end None))

-- one cycle more is listed: the path along those that chose, which has its number now
pub record AddsCycle (choosers : List (Option ℕ)) (first : ℕ) (numbers : List (Option ℕ))
    (cycles : List (List ℕ)) (numbers' : List (Option ℕ)) (cycles' : List (List ℕ)) : Type 0 where
  pub cycle : List ℕ
  pub end : ℕ
  pub followed : IsPathToMark choosers first (length cycles) cycle end numbers numbers'
  pub listed : cycles' ≡ cycles ++ cycle ∷ []

-- a root is a variable
abbrev pub IsInside : ℕ → Option ℕ → Type 0
IsInside variables None = Unit {0}
IsInside variables (Some root) = root < variables

-- the number of a root
abbrev pub core_by : List (Option ℕ) → Option ℕ → Option ℕ
core_by numbers None = None
core_by numbers (Some root) = slice_index_or numbers root None

-- The variables below a number have the number of their root in its place, and the others have their root.
pub record HaveNumbers (numbers roots list : List (Option ℕ)) (below : ℕ) : Type 0 where
  pub below_have : (i : ℕ) → i < below →
      slice_index_or list i None ≡ core_by numbers (slice_index_or roots i None)
  pub others : (i : ℕ) → below ≤ i → slice_index_or list i None ≡ slice_index_or roots i None
