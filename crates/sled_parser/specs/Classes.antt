-- Two classes are the same.
use Rattle.std.specs.Prelude.{ℕ, Bool, nat_eq}
use Rattle.sled_parser.specs.declared.class.Class.{Class}
use Rattle.sled_parser.specs.declared.class.Class.TheVariants as class

abbrev pub number : Class → ℕ
number class.End = 0
number class.Bar = 1
number class.Semicolon = 2
number class.And = 3
number class.Open = 4
number class.Close = 5
number class.OpenBrace = 6
number class.CloseBrace = 7
number class.OpenBracket = 8
number class.CloseBracket = 9
number class.Colon = 10
number class.Comma = 11
number class.Underscore = 12
number class.Ellipsis = 13
number class.Equal = 14
number class.Differs = 15
number class.Below = 16
number class.AtMost = 17
number class.Above = 18
number class.AtLeast = 19
number class.Arrow = 20
number class.At = 21
number class.Bang = 22
number class.Plus = 23
number class.Minus = 24
number class.Star = 25
number class.All = 26
number class.Case = 27
number class.Constructors = 28
number class.Else = 29
number class.Epsilon = 30
number class.Fields = 31
number class.Is = 32
number class.Little = 33
number class.Match = 34
number class.Of = 35
number class.Patterns = 36
number class.Skip = 37
number class.To = 38
number class.Version = 39
number class.Name = 40
number class.Number = 41
number class.Text = 42
number class.Other = 43

unfoldable pub same_class : Class → Class → Bool
same_class a b = nat_eq (number a) (number b)
