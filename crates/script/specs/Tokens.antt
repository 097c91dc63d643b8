-- The tokens of a line, separated by single spaces.
use Rattle.std.specs.Prelude.{ℕ, List, Option, Some, None, ◌==◌, ◌+◌, ◌≡◌, take, drop}
use Rattle.std.specs.Borrow.{Bor}
use Rattle.std.specs.List.{position}
use Rattle.std.specs.Option.{option_map}
use Rattle.script.specs.declared.tokens.Tokens.{Tokens}

-- what is left of the line from the next token on, and nothing past the last token
abbrev pub line_left : Tokens → Option (List ℕ)
line_left tokens = option_map (λ r. r.now) tokens.rest

-- where the first space of a line stands, if it has one
abbrev pub first_space : List ℕ → Option ℕ
first_space line = position (λ b. b == 32) line

abbrev pub before : Option ℕ → List ℕ → List ℕ
before None line = line
before (Some i) line = take i line

abbrev pub past : Option ℕ → List ℕ → Option (List ℕ)
past None line = None
past (Some i) line = Some (drop (i + 1) line)

abbrev pub first_token : Option (List ℕ) → Option (List ℕ)
first_token None = None
first_token (Some line) = Some (before (first_space line) line)

abbrev pub after_token : Option (List ℕ) → Option (List ℕ)
after_token None = None
after_token (Some line) = past (first_space line) line

-- a token is taken off the line
abbrev pub TakesToken : Tokens → Option (Bor (List ℕ)) → Tokens → Type 0
TakesToken tokens token left =
    (option_map (λ t. t.now) token ≡ first_token (line_left tokens)) × (line_left left ≡ after_token (line_left tokens))
