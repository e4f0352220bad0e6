-- What goes to the notes.
use Rattle.std.specs.Prelude.{ℕ, List, [], ◌∷◌, ◌++◌, codes, decimal}
use Rattle.image_listing.specs.Listing.{address_text}
use Rattle.toolkit_cli.specs.declared.messages.Unit.{Unit as Part}
use Rattle.toolkit_cli.specs.declared.messages.Unit.TheVariants as part
use Rattle.toolkit_cli.specs.declared.messages.Problem.{Problem}
use Rattle.toolkit_cli.specs.declared.messages.Problem.TheVariants.{Unread, TooLong, BadByte, OpenText, NumberTooBig, Syntax, Nesting, Unmet, NoMatch, AddressEnd}

abbrev pub problem_number : Problem → ℕ
problem_number Unread = 1
problem_number TooLong = 2
problem_number (BadByte place) = 3
problem_number (OpenText place) = 4
problem_number (NumberTooBig place) = 5
problem_number Syntax = 6
problem_number (Nesting place) = 7
problem_number (Unmet unit number condition) = 8
problem_number (NoMatch address) = 9
problem_number (AddressEnd address) = 10

abbrev pub unit_text : Part → List ℕ
unit_text part.Declaration = codes "declaration"
unit_text part.Arm = codes "arm"

abbrev pub unmet_text : Part → ℕ → ℕ → List ℕ
unmet_text unit number condition = unit_text unit ++ (codes " " ++ (decimal number ++ (codes " does not meet condition " ++ decimal condition)))

abbrev pub no_match_text : ℕ → List ℕ
no_match_text address = codes "no arm matches at " ++ address_text address

abbrev pub address_end_text : ℕ → List ℕ
address_end_text address = codes "address 2^32 reached at " ++ address_text address

abbrev pub problem_text : Problem → List ℕ
problem_text Unread = codes "cannot be read"
problem_text TooLong = codes "text has more than 1048576 bytes"
problem_text (BadByte place) = codes "byte not allowed at " ++ decimal place
problem_text (OpenText place) = codes "text not closed at " ++ decimal place
problem_text (NumberTooBig place) = codes "number too large at " ++ decimal place
problem_text Syntax = codes "syntax"
problem_text (Nesting place) = codes "brackets nested deeper than 64 at " ++ decimal place
problem_text (Unmet unit number condition) = unmet_text unit number condition
problem_text (NoMatch address) = no_match_text address
problem_text (AddressEnd address) = address_end_text address

-- NAME: error N: TEXT
abbrev pub message : List ℕ → Problem → List ℕ
message name problem = name ++ (codes ": error " ++ (decimal (problem_number problem) ++ (codes ": " ++ (problem_text problem ++ 10 ∷ []))))

abbrev pub usage_text : List ℕ
usage_text = codes "usage: sledkit dis SPEC MATCH BASE\n"
