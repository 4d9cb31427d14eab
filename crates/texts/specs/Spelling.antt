-- How a contract is written over its nodes. Assumes nothing: these are definitions.
use Rattle.std.specs.Prelude.{◌≡◌, ℕ, zero, suc, ◌+◌, ◌*◌, ◌<◌, ◌≤◌, Bool, true, false, ◌&&◌, List, [], ◌∷◌, ◌++◌, length, drop, Some, None, codes, Option, ◌≢◌, nat_le, slice_index_or, slice_set, unsigned_abs}
use Rattle.deals.specs.Contract.{pick, Contract}
use Rattle.deals.specs.Promise.{marks, ContractFits}
use Rattle.texts.specs.Written.{written_number, written_amount, written_rate, written}
use Rattle.texts.specs.Nodes.{Holds, nodes_of}
use Rattle.texts.specs.Limits.{is_pair}
use Rattle.texts.specs.declared.nodes.Tree.{Tree}
use Rattle.texts.specs.declared.writing.WriteRefusal.{WriteRefusal}
use Rattle.texts.specs.declared.writing.WriteRefusal.TheVariants.{NoContract, NoRoom}
use Rattle.texts.specs.declared.nodes.Node.{Node}
use Rattle.texts.specs.declared.nodes.Node.TheVariants.{Nothing, Pays, Turned, Both, Choice, If, Of, On, When, By, Fixed, Rate, Day, Plus, Minus, Times, Max, Less}

-- WHAT IS PROMISED. A contract of at most 256 marks whose nodes a tree holds was written, in front of what stood behind it; it is the only one in bounds that it can be
pub record WrittenOut (t : Tree) (before after : List ℕ) (n : ℕ) : Type 0 where
  pub contract : Contract
  pub held : Holds t (nodes_of contract)
  pub few : marks contract ≤ 256
  pub only : (rs cs : ℕ) (y : Contract) → rs ≤ 65536 → cs ≤ 256 → ContractFits rs cs y → Holds t (nodes_of y) → y ≡ contract
  pub long : n ≡ length (written contract)
  pub room : n ≤ length before
  pub whole : after ≡ written contract ++ drop n before

-- why nothing was written: no contract of at most 256 marks has these nodes; or it has more bytes than there are
abbrev pub NotWritten : Tree → List ℕ → WriteRefusal → Type 0
NotWritten t before NoContract = (x : Contract) → Holds t (nodes_of x) → marks x ≤ 256 → ⊥
NotWritten t before NoRoom = (x : Contract) × Holds t (nodes_of x) × (marks x ≤ 256) × (length before < length (written x))

-- HOW IT IS DONE. Bytes written from a place on, as far as there is room
abbrev pub laid : List ℕ → ℕ → List ℕ → List ℕ
laid l i [] = l
laid l i (b ∷ w) = laid (slice_set l i b) (suc i) w

pub record Put (before after : List ℕ) (to : ℕ) (w : List ℕ) (next : ℕ) : Type 0 where
  pub bytes : after ≡ laid before to w
  pub behind : next ≡ to + length w

-- the words of each node: the first, without numbers and with them; between two parts; behind a figure; and the last
abbrev pub first_plain : Node → List ℕ
first_plain Nothing = codes "nothing"
first_plain (Pays k a) = []
first_plain Turned = codes "turned("
first_plain Both = codes "both("
first_plain Choice = codes "choice("
first_plain If = codes "if "
first_plain Of = []
first_plain (On d) = []
first_plain When = codes "when "
first_plain (By d) = []
first_plain (Fixed a) = []
first_plain (Rate k n) = []
first_plain Day = codes "day"
first_plain Plus = codes "("
first_plain Minus = codes "("
first_plain Times = codes "("
first_plain Max = codes "max("
first_plain Less = codes "("

abbrev pub day_word : List ℕ → ℕ → List ℕ
day_word word d = word ++ (written_number d ++ codes ": ")

-- a number as it is held, and one with sign
abbrev pub number_held : ℕ → Bool
number_held n = nat_le n 18446744073709551615

abbrev pub first_word : Node → Option (List ℕ)
first_word Nothing = Some (first_plain Nothing)
first_word (Pays k a) = pick (number_held k && nat_le (unsigned_abs a) 9223372036854775807) (Some (codes "pays " ++ (written_amount a ++ (codes " " ++ written_number k)))) None
first_word Turned = Some (first_plain Turned)
first_word Both = Some (first_plain Both)
first_word Choice = Some (first_plain Choice)
first_word If = Some (first_plain If)
first_word Of = Some (first_plain Of)
first_word (On d) = pick (number_held d) (Some (day_word (codes "on ") d)) None
first_word When = Some (first_plain When)
first_word (By d) = pick (number_held d) (Some (day_word (codes "by ") d)) None
first_word (Fixed a) = pick (nat_le (unsigned_abs a) 9223372036854775807) (Some (written_amount a)) None
first_word (Rate k n) = pick (number_held k && number_held n) (Some (written_rate k n)) None
first_word Day = Some (first_plain Day)
first_word Plus = Some (first_plain Plus)
first_word Minus = Some (first_plain Minus)
first_word Times = Some (first_plain Times)
first_word Max = Some (first_plain Max)
first_word Less = Some (first_plain Less)

abbrev pub is_figure : Node → Bool
is_figure Nothing = false
is_figure (Pays k a) = false
is_figure Turned = false
is_figure Both = false
is_figure Choice = false
is_figure If = false
is_figure Of = false
is_figure (On d) = false
is_figure When = false
is_figure (By d) = false
is_figure (Fixed a) = true
is_figure (Rate k n) = true
is_figure Day = true
is_figure Plus = true
is_figure Minus = true
is_figure Times = true
is_figure Max = true
is_figure Less = true

abbrev pub is_leaf : Node → Bool
is_leaf Nothing = true
is_leaf (Pays k a) = true
is_leaf Turned = false
is_leaf Both = false
is_leaf Choice = false
is_leaf If = false
is_leaf Of = false
is_leaf (On d) = false
is_leaf When = false
is_leaf (By d) = false
is_leaf (Fixed a) = true
is_leaf (Rate k n) = true
is_leaf Day = true
is_leaf Plus = false
is_leaf Minus = false
is_leaf Times = false
is_leaf Max = false
is_leaf Less = false

abbrev pub has_figure : Node → Bool
has_figure Nothing = false
has_figure (Pays k a) = false
has_figure Turned = false
has_figure Both = false
has_figure Choice = false
has_figure If = true
has_figure Of = true
has_figure (On d) = false
has_figure When = true
has_figure (By d) = false
has_figure (Fixed a) = false
has_figure (Rate k n) = false
has_figure Day = false
has_figure Plus = false
has_figure Minus = false
has_figure Times = false
has_figure Max = false
has_figure Less = false

abbrev pub between_word : Node → List ℕ
between_word Nothing = codes ", "
between_word (Pays k a) = codes ", "
between_word Turned = codes ", "
between_word Both = codes ", "
between_word Choice = codes ", "
between_word If = codes " else "
between_word Of = codes ", "
between_word (On d) = codes ", "
between_word When = codes ", "
between_word (By d) = codes ", "
between_word (Fixed a) = codes ", "
between_word (Rate k n) = codes ", "
between_word Day = codes ", "
between_word Plus = codes " + "
between_word Minus = codes " - "
between_word Times = codes " * "
between_word Max = codes ", "
between_word Less = codes " < "

abbrev pub scale_word : Node → List ℕ
scale_word Nothing = codes ": "
scale_word (Pays k a) = codes ": "
scale_word Turned = codes ": "
scale_word Both = codes ": "
scale_word Choice = codes ": "
scale_word If = codes " then "
scale_word Of = codes " of "
scale_word (On d) = codes ": "
scale_word When = codes ": "
scale_word (By d) = codes ": "
scale_word (Fixed a) = codes ": "
scale_word (Rate k n) = codes ": "
scale_word Day = codes ": "
scale_word Plus = codes ": "
scale_word Minus = codes ": "
scale_word Times = codes ": "
scale_word Max = codes ": "
scale_word Less = codes ": "

abbrev pub behind_word : Node → List ℕ
behind_word Nothing = []
behind_word (Pays k a) = []
behind_word Turned = codes ")"
behind_word Both = codes ")"
behind_word Choice = codes ")"
behind_word If = []
behind_word Of = []
behind_word (On d) = []
behind_word When = []
behind_word (By d) = []
behind_word (Fixed a) = []
behind_word (Rate k n) = []
behind_word Day = []
behind_word Plus = codes ")"
behind_word Minus = codes ")"
behind_word Times = codes ")"
behind_word Max = codes ")"
behind_word Less = codes ")"

-- the text of the figure at a place, and where the nodes behind it begin; rest says it of those behind
abbrev pub figure_spell : Node → ℕ → (ℕ → Option (List ℕ × ℕ)) → Option (List ℕ × ℕ)
figure_spell node at rest =
    pick (is_figure node)
    (elim (first_word node) [
      | None ↦ None
      | Some u ↦
          pick (is_leaf node) (Some (u, at + 1))
          (elim (rest (at + 1)) [
            | None ↦ None
            | Some p ↦ elim (rest p.1) [ None ↦ None | Some q ↦ Some (u ++ (p.0 ++ (between_word node ++ (q.0 ++ behind_word node))), q.1) ]
          ])
    ]) None

unfoldable pub figure_spelled : List Node → ℕ → ℕ → Option (List ℕ × ℕ)
figure_spelled ns zero at = None
figure_spelled ns (suc n) at = pick (nat_le (length ns) at) None (figure_spell (slice_index_or ns at Nothing) at (figure_spelled ns n))

-- the figure of a contract that has one, with the word behind it
abbrev pub scale_spelled : List Node → Node → ℕ → ℕ → Option (List ℕ × ℕ)
scale_spelled ns node n at = pick (has_figure node) (elim (figure_spelled ns n at) [ None ↦ None | Some p ↦ Some (p.0 ++ scale_word node, p.1) ]) (Some ([], at))

-- the text of the contract at a place; scale says it of its figure, rest of the parts behind
abbrev pub contract_spell : Node → ℕ → (ℕ → Option (List ℕ × ℕ)) → (ℕ → Option (List ℕ × ℕ)) → Option (List ℕ × ℕ)
contract_spell node at scale rest =
    pick (is_figure node) None
    (elim (first_word node) [
      | None ↦ None
      | Some u ↦
          pick (is_leaf node) (Some (u, at + 1))
          (elim (scale (at + 1)) [
            | None ↦ None
            | Some e ↦
                elim (rest e.1) [
                  | None ↦ None
                  | Some p ↦
                      pick (is_pair node)
                      (elim (rest p.1) [ None ↦ None | Some q ↦ Some (u ++ (e.0 ++ (p.0 ++ (between_word node ++ (q.0 ++ behind_word node)))), q.1) ])
                      (Some (u ++ (e.0 ++ (p.0 ++ behind_word node)), p.1))
                ]
          ])
    ])

unfoldable pub contract_spelled : List Node → ℕ → ℕ → Option (List ℕ × ℕ)
contract_spelled ns zero at = None
contract_spelled ns (suc n) at = pick (nat_le (length ns) at) None (contract_spell (slice_index_or ns at Nothing) at (scale_spelled ns (slice_index_or ns at Nothing) (suc n)) (contract_spelled ns n))

-- the first word was written, or there is none
pub record FirstPut (node : Node) (before after : List ℕ) (to next : ℕ) : Type 0 where
  pub word : List ℕ
  pub is : first_word node ≡ Some word
  pub put : Put before after to word next
  pub short : length word ≤ 47

-- a text was written: where its nodes and its bytes end; at most 70 bytes a node
pub record Wrote (o : Option (List ℕ × ℕ)) (before after : List ℕ) (to at long : ℕ) (p : ℕ × ℕ) : Type 0 where
  pub text : List ℕ
  pub is : o ≡ Some (text, p.0)
  pub put : Put before after to text p.1
  pub on : at ≤ p.0
  pub within : p.0 ≤ long
  pub low : p.1 + 70 * at ≤ to + 70 * p.0

-- the same of the figure of a contract, or of none, with the word behind it
pub record Scaled (o : Option (List ℕ × ℕ)) (before after : List ℕ) (to at long : ℕ) (p : ℕ × ℕ) : Type 0 where
  pub text : List ℕ
  pub is : o ≡ Some (text, p.0)
  pub put : Put before after to text p.1
  pub on : at ≤ p.0
  pub within : p.0 ≤ long
  pub low : p.1 + 70 * at ≤ to + 70 * p.0 + 6

-- the nodes of a row are those of one contract, with so many bytes; or they are not
abbrev pub NotSpelled : List Node → Type 0
NotSpelled ns = (w : List ℕ) → contract_spelled ns 256 0 ≢ Some (w, length ns)

abbrev pub SpelledWhole : List Node → ℕ → Type 0
SpelledWhole ns n = (w : List ℕ) × (contract_spelled ns 256 0 ≡ Some (w, length ns)) × (n ≡ length w)
