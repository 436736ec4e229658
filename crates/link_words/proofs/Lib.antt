pub mod SectionBytes
