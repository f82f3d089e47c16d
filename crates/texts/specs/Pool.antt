-- The pool: names, then the texts of each rule by value, end to end; where each starts; the codes of names and texts.
use Prim.Native.Char as C
use Rattle.std.specs.Prelude.{ℕ, zero, suc, ◌+◌, ◌-◌, Bool, true, false, cond, List, [], ◌∷◌, ◌++◌, eqb, length, get_or, take, replicate}
use Prim.Native.String.{String}
use Prim.Native.String as S
use lib.Text.{eqt}
use Rattle.texts.specs.Names.{names}
use Rattle.texts.specs.Rules.{Text, Rule, plain, rules}

-- the text of a value in a list of texts; empty where it has none
unfoldable pub text_in : List Text → ℕ → String
text_in [] v = ""
text_in (t ∷ ts) v = cond (eqb v t.value) t.text (text_in ts v)

-- whether a value is on a list of texts
unfoldable pub on_list : List Text → ℕ → Bool
on_list [] v = false
on_list (t ∷ ts) v = cond (eqb v t.value) true (on_list ts v)

-- a rule by its number; a number past the last is that of no rule
unfoldable pub rule_at : ℕ → Rule
rule_at n = get_or rules n plain

-- how a rule describes a value, and whether it does
unfoldable pub description_of : ℕ → ℕ → String
description_of rule value = text_in (rule_at rule).texts value

unfoldable pub describes : ℕ → ℕ → Bool
describes rule value = on_list (rule_at rule).texts value

-- the texts of n values from v on
unfoldable pub by_value : List Text → ℕ → ℕ → List String
by_value ts v zero = []
by_value ts v (suc n) = text_in ts v ∷ by_value ts (suc v) n

-- the texts of rules, one rule after the other, each by value
unfoldable pub described : List Rule → List String
described [] = []
described (r ∷ rs) = by_value r.texts 0 r.codes ++ described rs

-- names have the codes below 128, so that a name added later moves no code of a text
abbrev pub name_room : ℕ
name_room = 128

-- all texts, by code; code 0 is no name and no text
unfoldable pub texts : List String
texts = names ++ (replicate (name_room - length names) "" ++ described rules)

unfoldable pub text_at : ℕ → String
text_at code = get_or texts code ""

-- the code of a name: its index among the names
unfoldable pub index_in : ℕ → List String → String → ℕ
index_in n [] s = n
index_in n (t ∷ ts) s = cond (eqt s t) n (index_in (suc n) ts s)

unfoldable pub code : String → ℕ
code s = index_in 0 names s

-- the code of a rule's description of a value: the rule's first code plus the value; 0 where there is none
unfoldable pub codes_of : List Rule → ℕ
codes_of [] = 0
codes_of (r ∷ rs) = r.codes + codes_of rs

unfoldable pub first_of : ℕ → ℕ
first_of rule = name_room + codes_of (take rule rules)

unfoldable pub text_code : ℕ → ℕ → ℕ
text_code rule value = cond (describes rule value) (first_of rule + value) 0

-- the bytes of a text, of a text by its code, and of texts end to end
unfoldable pub bytes : String → List ℕ
bytes S.[] = []
bytes (S.◌∷◌ c s) = C.code c ∷ bytes s

unfoldable pub bytes_at : ℕ → List ℕ
bytes_at code = bytes (text_at code)

unfoldable pub flat : List String → List ℕ
flat [] = []
flat (s ∷ ss) = bytes s ++ flat ss

-- where each text starts in them, and at last where they end
unfoldable pub starts_from : ℕ → List String → List ℕ
starts_from n [] = n ∷ []
starts_from n (s ∷ ss) = n ∷ starts_from (n + length (bytes s)) ss

unfoldable pub pool : List ℕ
pool = flat texts

unfoldable pub starts : List ℕ
starts = starts_from 0 texts

-- the length of a text by starts that are lent; 0 past the last, and where the next start is not after
unfoldable pub length_in : List ℕ → ℕ → ℕ
length_in starting code = get_or starting (code + 1) 0 - get_or starting code 0
