-- The numbers of the ELF tables, as the standards give them. Definitions and code cite the constants by their names, so
-- that a wrong number would be wrong in both: these equations alone would show it.
use Rattle.std.specs.Prelude.{◌≡◌}
use Rattle.elf_model.specs.declared.constants.TheConstants.{EI_OSABI, E_TYPE, E_MACHINE, E_VERSION, E_ENTRY, E_PHOFF, E_SHOFF, E_FLAGS, E_PHENTSIZE, E_PHNUM, E_SHENTSIZE, E_SHNUM, E_SHSTRNDX, EHDR_SIZE, ET_REL, ET_EXEC, ET_DYN, EM_ARM, EF_ARM_EABI_VERSION, ELFOSABI_NONE, ELFOSABI_ARM_FDPIC, P_TYPE, P_OFFSET, P_VADDR, P_FILESZ, P_MEMSZ, P_FLAGS, P_ALIGN, PHDR_SIZE, PT_LOAD, PT_DYNAMIC, PT_INTERP, PT_PHDR, PT_TLS, PF_X, PF_W, PF_R, SH_NAME, SH_TYPE, SH_FLAGS, SH_ADDR, SH_OFFSET, SH_SIZE, SH_LINK, SH_INFO, SH_ADDRALIGN, SHDR_SIZE, SHT_PROGBITS, SHT_SYMTAB, SHT_STRTAB, SHT_RELA, SHT_HASH, SHT_DYNAMIC, SHT_NOTE, SHT_NOBITS, SHT_REL, SHT_DYNSYM, SHT_INIT_ARRAY, SHT_FINI_ARRAY, SHT_GROUP, SHF_WRITE, SHF_ALLOC, SHF_EXECINSTR, SHF_TLS, ST_NAME, ST_VALUE, ST_SIZE, ST_INFO, ST_OTHER, ST_SHNDX, SYM_SIZE, STB_LOCAL, STB_GLOBAL, STB_WEAK, STT_NOTYPE, STT_OBJECT, STT_FUNC, STT_SECTION, STT_FILE, STT_TLS, STV_DEFAULT, STV_INTERNAL, STV_HIDDEN, STV_PROTECTED, SHN_UNDEF, SHN_ABS, SHN_COMMON, HASH_NCHAIN, D_TAG, D_VAL, DYN_SIZE, DT_NULL, DT_NEEDED, DT_PLTRELSZ, DT_PLTGOT, DT_HASH, DT_STRTAB, DT_SYMTAB, DT_RELA, DT_STRSZ, DT_SYMENT, DT_INIT, DT_FINI, DT_SONAME, DT_SYMBOLIC, DT_REL, DT_RELSZ, DT_RELENT, DT_PLTREL, DT_DEBUG, DT_TEXTREL, DT_JMPREL, DT_BIND_NOW, DT_INIT_ARRAY, DT_FINI_ARRAY, DT_INIT_ARRAYSZ, DT_FINI_ARRAYSZ, DT_FLAGS, DF_SYMBOLIC, DF_TEXTREL, DF_BIND_NOW, R_OFFSET, R_INFO, REL_SIZE, R_ARM_NONE, R_ARM_PC24, R_ARM_ABS32, R_ARM_REL32, R_ARM_GLOB_DAT, R_ARM_RELATIVE, R_ARM_GOTOFF32, R_ARM_GOT_BREL, R_ARM_PLT32, R_ARM_CALL, R_ARM_JUMP24, R_ARM_TARGET1, R_ARM_V4BX, R_ARM_PREL31, R_ARM_GOTFUNCDESC, R_ARM_GOTOFFFUNCDESC, R_ARM_FUNCDESC, R_ARM_FUNCDESC_VALUE, GOT_HEADER_SIZE, MAX_SEGMENTS, MAX_ENTRIES, MAX_NEEDED, MAX_SECTION_ALIGN, MAX_SECTION_BYTES, MAX_SECTIONS_ENTRIES}

pub record HasNumbers : Type 0 where
  -- The file's header (gABI, "ELF Header"): where each field stands, and the size of the header.
  pub ei_osabi : EI_OSABI ≡ 7
  pub e_type : E_TYPE ≡ 16
  pub e_machine : E_MACHINE ≡ 18
  pub e_version : E_VERSION ≡ 20
  pub e_entry : E_ENTRY ≡ 24
  pub e_phoff : E_PHOFF ≡ 28
  pub e_shoff : E_SHOFF ≡ 32
  pub e_flags : E_FLAGS ≡ 36
  pub e_phentsize : E_PHENTSIZE ≡ 42
  pub e_phnum : E_PHNUM ≡ 44
  pub e_shentsize : E_SHENTSIZE ≡ 46
  pub e_shnum : E_SHNUM ≡ 48
  pub e_shstrndx : E_SHSTRNDX ≡ 50
  pub ehdr_size : EHDR_SIZE ≡ 52
  -- Types of files (gABI, "ELF Header", e_type).
  pub et_rel : ET_REL ≡ 1
  pub et_exec : ET_EXEC ≡ 2
  pub et_dyn : ET_DYN ≡ 3
  -- The machine (gABI, "ELF Header", e_machine), its flags (ELF for the Arm Architecture, "ELF Header", e_flags) and the
  -- OS/ABI byte (gABI, "ELF Identification", EI_OSABI; Arm FDPIC ABI).
  pub em_arm : EM_ARM ≡ 40
  pub ef_arm_eabi_version : EF_ARM_EABI_VERSION ≡ 5
  pub elfosabi_none : ELFOSABI_NONE ≡ 0
  pub elfosabi_arm_fdpic : ELFOSABI_ARM_FDPIC ≡ 65
  -- A program header (gABI, "Program Header"): where each field stands, and its size.
  pub p_type : P_TYPE ≡ 0
  pub p_offset : P_OFFSET ≡ 4
  pub p_vaddr : P_VADDR ≡ 8
  pub p_filesz : P_FILESZ ≡ 16
  pub p_memsz : P_MEMSZ ≡ 20
  pub p_flags : P_FLAGS ≡ 24
  pub p_align : P_ALIGN ≡ 28
  pub phdr_size : PHDR_SIZE ≡ 32
  -- Kinds and flags of segments (gABI, "Program Header", tables "Segment Types" and "Segment Flag Bits").
  pub pt_load : PT_LOAD ≡ 1
  pub pt_dynamic : PT_DYNAMIC ≡ 2
  pub pt_interp : PT_INTERP ≡ 3
  pub pt_phdr : PT_PHDR ≡ 6
  pub pt_tls : PT_TLS ≡ 7
  pub pf_x : PF_X ≡ 1
  pub pf_w : PF_W ≡ 2
  pub pf_r : PF_R ≡ 4
  -- A section header (gABI, "Sections"): where each field stands, and its size.
  pub sh_name : SH_NAME ≡ 0
  pub sh_type : SH_TYPE ≡ 4
  pub sh_flags : SH_FLAGS ≡ 8
  pub sh_addr : SH_ADDR ≡ 12
  pub sh_offset : SH_OFFSET ≡ 16
  pub sh_size : SH_SIZE ≡ 20
  pub sh_link : SH_LINK ≡ 24
  pub sh_info : SH_INFO ≡ 28
  pub sh_addralign : SH_ADDRALIGN ≡ 32
  pub shdr_size : SHDR_SIZE ≡ 40
  -- Kinds of sections (gABI, "Sections", table "Section Types").
  pub sht_progbits : SHT_PROGBITS ≡ 1
  pub sht_symtab : SHT_SYMTAB ≡ 2
  pub sht_strtab : SHT_STRTAB ≡ 3
  pub sht_rela : SHT_RELA ≡ 4
  pub sht_hash : SHT_HASH ≡ 5
  pub sht_dynamic : SHT_DYNAMIC ≡ 6
  pub sht_note : SHT_NOTE ≡ 7
  pub sht_nobits : SHT_NOBITS ≡ 8
  pub sht_rel : SHT_REL ≡ 9
  pub sht_dynsym : SHT_DYNSYM ≡ 11
  pub sht_init_array : SHT_INIT_ARRAY ≡ 14
  pub sht_fini_array : SHT_FINI_ARRAY ≡ 15
  pub sht_group : SHT_GROUP ≡ 17
  -- Flags of sections (gABI, "Sections", table "Section Attribute Flags").
  pub shf_write : SHF_WRITE ≡ 1
  pub shf_alloc : SHF_ALLOC ≡ 2
  pub shf_execinstr : SHF_EXECINSTR ≡ 4
  pub shf_tls : SHF_TLS ≡ 0x400
  -- A symbol (gABI, "Symbol Table"): where each field stands, and its size.
  pub st_name : ST_NAME ≡ 0
  pub st_value : ST_VALUE ≡ 4
  pub st_size : ST_SIZE ≡ 8
  pub st_info : ST_INFO ≡ 12
  pub st_other : ST_OTHER ≡ 13
  pub st_shndx : ST_SHNDX ≡ 14
  pub sym_size : SYM_SIZE ≡ 16
  -- Symbols (gABI, "Symbol Table", tables "Symbol Binding", "Symbol Types" and "Symbol Visibility").
  pub stb_local : STB_LOCAL ≡ 0
  pub stb_global : STB_GLOBAL ≡ 1
  pub stb_weak : STB_WEAK ≡ 2
  pub stt_notype : STT_NOTYPE ≡ 0
  pub stt_object : STT_OBJECT ≡ 1
  pub stt_func : STT_FUNC ≡ 2
  pub stt_section : STT_SECTION ≡ 3
  pub stt_file : STT_FILE ≡ 4
  pub stt_tls : STT_TLS ≡ 6
  pub stv_default : STV_DEFAULT ≡ 0
  pub stv_internal : STV_INTERNAL ≡ 1
  pub stv_hidden : STV_HIDDEN ≡ 2
  pub stv_protected : STV_PROTECTED ≡ 3
  -- Indexes of no section (gABI, "Sections", table "Special Section Indexes").
  pub shn_undef : SHN_UNDEF ≡ 0
  pub shn_abs : SHN_ABS ≡ 0xfff1
  pub shn_common : SHN_COMMON ≡ 0xfff2
  -- A hash table (gABI, "Hash Table"): where the number of chains stands.
  pub hash_nchain : HASH_NCHAIN ≡ 4
  -- A dynamic entry (gABI, "Dynamic Section"): where each field stands, and its size.
  pub d_tag : D_TAG ≡ 0
  pub d_val : D_VAL ≡ 4
  pub dyn_size : DYN_SIZE ≡ 8
  -- Tags, and the bits of DT_FLAGS (gABI, "Dynamic Section", tables "Dynamic Array Tags" and "DT_FLAGS values").
  pub dt_null : DT_NULL ≡ 0
  pub dt_needed : DT_NEEDED ≡ 1
  pub dt_pltrelsz : DT_PLTRELSZ ≡ 2
  pub dt_pltgot : DT_PLTGOT ≡ 3
  pub dt_hash : DT_HASH ≡ 4
  pub dt_strtab : DT_STRTAB ≡ 5
  pub dt_symtab : DT_SYMTAB ≡ 6
  pub dt_rela : DT_RELA ≡ 7
  pub dt_strsz : DT_STRSZ ≡ 10
  pub dt_syment : DT_SYMENT ≡ 11
  pub dt_init : DT_INIT ≡ 12
  pub dt_fini : DT_FINI ≡ 13
  pub dt_soname : DT_SONAME ≡ 14
  pub dt_symbolic : DT_SYMBOLIC ≡ 16
  pub dt_rel : DT_REL ≡ 17
  pub dt_relsz : DT_RELSZ ≡ 18
  pub dt_relent : DT_RELENT ≡ 19
  pub dt_pltrel : DT_PLTREL ≡ 20
  pub dt_debug : DT_DEBUG ≡ 21
  pub dt_textrel : DT_TEXTREL ≡ 22
  pub dt_jmprel : DT_JMPREL ≡ 23
  pub dt_bind_now : DT_BIND_NOW ≡ 24
  pub dt_init_array : DT_INIT_ARRAY ≡ 25
  pub dt_fini_array : DT_FINI_ARRAY ≡ 26
  pub dt_init_arraysz : DT_INIT_ARRAYSZ ≡ 27
  pub dt_fini_arraysz : DT_FINI_ARRAYSZ ≡ 28
  pub dt_flags : DT_FLAGS ≡ 30
  pub df_symbolic : DF_SYMBOLIC ≡ 2
  pub df_textrel : DF_TEXTREL ≡ 4
  pub df_bind_now : DF_BIND_NOW ≡ 8
  -- A relocation entry (gABI, "Relocation"): where each field stands, and its size.
  pub r_offset : R_OFFSET ≡ 0
  pub r_info : R_INFO ≡ 4
  pub rel_size : REL_SIZE ≡ 8
  -- Kinds of relocations (ELF for the Arm Architecture, table "Relocation codes"; the last four also Arm FDPIC ABI).
  pub r_arm_none : R_ARM_NONE ≡ 0
  pub r_arm_pc24 : R_ARM_PC24 ≡ 1
  pub r_arm_abs32 : R_ARM_ABS32 ≡ 2
  pub r_arm_rel32 : R_ARM_REL32 ≡ 3
  pub r_arm_glob_dat : R_ARM_GLOB_DAT ≡ 21
  pub r_arm_relative : R_ARM_RELATIVE ≡ 23
  pub r_arm_gotoff32 : R_ARM_GOTOFF32 ≡ 24
  pub r_arm_got_brel : R_ARM_GOT_BREL ≡ 26
  pub r_arm_plt32 : R_ARM_PLT32 ≡ 27
  pub r_arm_call : R_ARM_CALL ≡ 28
  pub r_arm_jump24 : R_ARM_JUMP24 ≡ 29
  pub r_arm_target1 : R_ARM_TARGET1 ≡ 38
  pub r_arm_v4bx : R_ARM_V4BX ≡ 40
  pub r_arm_prel31 : R_ARM_PREL31 ≡ 42
  pub r_arm_gotfuncdesc : R_ARM_GOTFUNCDESC ≡ 161
  pub r_arm_gotofffuncdesc : R_ARM_GOTOFFFUNCDESC ≡ 162
  pub r_arm_funcdesc : R_ARM_FUNCDESC ≡ 163
  pub r_arm_funcdesc_value : R_ARM_FUNCDESC_VALUE ≡ 164
  -- The words of the GOT that loading fills (Arm FDPIC ABI): three of 4 bytes.
  pub got_header_size : GOT_HEADER_SIZE ≡ 12
  -- Limits of this project's own.
  pub max_segments : MAX_SEGMENTS ≡ 8
  pub max_entries : MAX_ENTRIES ≡ 65536
  pub max_needed : MAX_NEEDED ≡ 64
  pub max_section_align : MAX_SECTION_ALIGN ≡ 4096
  pub max_section_bytes : MAX_SECTION_BYTES ≡ 4194304
  pub max_sections_entries : MAX_SECTIONS_ENTRIES ≡ 524288
