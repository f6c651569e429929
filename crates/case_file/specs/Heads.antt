-- What the head of a case says of a pool.
use Rattle.std.specs.Prelude.{ℕ, ◌+◌, ◌*◌, ◌%◌, ◌^◌, cond, List, nat_lt, slice_index}
use Rattle.format.specs.Dwords.{dwords_of}
use Rattle.case_file.specs.declared.Head.{Head}
use Rattle.case_file.specs.declared.Pool.{Pool}

-- the dword at a place of a head, or 0 past its end
abbrev pub dword_at : List ℕ → ℕ → ℕ
dword_at head k = slice_index (dwords_of head) k

-- a head's dwords, in their order
abbrev pub head_of : List ℕ → Head
head_of head = record {
  four_cc = dword_at head 0;
  edition = dword_at head 1;
  size = dword_at head 2;
  given = dword_at head 3;
  lent_instructions = dword_at head 4;
  lent_operands = dword_at head 5;
  lent_words = dword_at head 6;
  before = dword_at head 7;
  number = dword_at head 8;
  version_or_place = dword_at head 9;
  instructions = dword_at head 10;
  operands = dword_at head 11;
  words = dword_at head 12;
  questions = dword_at head 13;
}

-- a pool of a case with this number: refusals 11 to 14 clear all that is lent
abbrev pub pool_of : ℕ → ℕ → ℕ → ℕ → Pool
pool_of number lent used before = record { lent = lent; used = used; cleared = cond (nat_lt 10 number) lent 0; before = before }

-- the three pools of a case; what each holds before is far from what the others hold
abbrev pub instruction_pool : Head → Pool
instruction_pool head = pool_of head.number head.lent_instructions (head.instructions * 16) head.before

abbrev pub operand_pool : Head → Pool
operand_pool head = pool_of head.number head.lent_operands (head.operands * 16) ((head.before + 65_536) % 2 ^ 32)

abbrev pub word_pool : Head → Pool
word_pool head = pool_of head.number head.lent_words head.words ((head.before + 131_072) % 2 ^ 32)
