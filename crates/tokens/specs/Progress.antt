-- How much of a text a lexer, or a cursor, has yet to read. Assumes nothing.
use Rattle.std.specs.Prelude.{ℕ, length}
use Rattle.tokens.specs.declared.lexer.Lexer.{Lexer}
use Rattle.tokens.specs.declared.cursor.Cursor.{Cursor}

-- the bytes from the token on
abbrev pub unread : Lexer → ℕ
unread x = length x.rest.now

abbrev pub ahead : Cursor → ℕ
ahead x = unread x.lexer
