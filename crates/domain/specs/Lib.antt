pub use Rattle.octseq.specs.Parsing
pub use Rattle.octseq.specs.Capacity
pub use Rattle.domain_wire.specs.Refusals
pub use Rattle.domain_wire.specs.Numbers
pub use Rattle.domain_wire.specs.Addresses
pub use Rattle.domain_wire.specs.Values
pub use Rattle.domain_wire.specs.FixedLength
pub use Rattle.domain_serial.specs.Serials
pub use Rattle.domain_label.specs.Wire
pub use Rattle.domain_label.specs.Lowercase
pub use Rattle.domain_label.specs.Text
pub use Rattle.domain_label.specs.Spelling
pub use Rattle.domain_label.specs.LabelText
pub use Rattle.domain_label.specs.Labels as LabelViews
pub use Rattle.domain_reading.specs.Grammar
pub use Rattle.domain_reading.specs.Limits
pub use Rattle.domain_reading.specs.Faults
pub use Rattle.domain_reading.specs.ParseResult
pub use Rattle.domain_reading.specs.Touched
pub use Rattle.domain_reading.specs.declared.fault.NameFault
pub use Rattle.domain_list.specs.Order
pub use Rattle.domain_list.specs.EqualSuffixes
pub use Rattle.domain_list.specs.Ancestors
pub use Rattle.domain_list.specs.Chains
pub use Rattle.domain_list.specs.ChainParts
pub use Rattle.domain_list.specs.Ends
pub use Rattle.domain_list.specs.HashInput
pub use Rattle.domain_list.specs.Count
pub use Rattle.domain_builder.specs.BuilderState
pub use Rattle.domain_builder.specs.TextGrammar
pub use Rattle.domain_builder.specs.ErrorText
pub use Rattle.domain_builder.specs.Pushing
pub use Rattle.domain_builder.specs.Calls
pub use Rattle.domain_flat.specs.Flat
pub use Rattle.domain_flat.specs.Starts
pub use Rattle.domain_flat.specs.Faults as FlatFaults
pub use Rattle.domain_name.specs.Names
pub use Rattle.domain_name.specs.Suffixes
pub use Rattle.domain_name.specs.Builders
pub use Rattle.domain_parsed.specs.ParsedNames as ParsedViews
pub use Rattle.domain_rdata.specs.Canonical
pub use Rattle.domain_rdata.specs.RecordData
pub use Rattle.domain_rdata.specs.ReadBack
pub use Rattle.domain_rdata.specs.LeavingNames
pub use Rattle.domain_rdata.specs.Members
pub use Rattle.domain_rdata.specs.OctetsAlone
pub use Rattle.domain_rdata.specs.Parsers as DataParsers
pub use Rattle.domain_rdata.specs.Targets as DataTargets
pub use Rattle.domain_rdata.specs.AnyData
pub use Rattle.domain_rdata.specs.Rtypes
pub use Rattle.domain_rdata.specs.Unknown
pub use Rattle.domain_compress.specs.Compressing
pub use Rattle.domain_tool.specs.Engines
pub use Rattle.domain_tool.specs.Lines
pub use Rattle.domain_tool.specs.Words
pub use Rattle.domain_tool.specs.WireText
pub use Rattle.domain_header.specs.Headers
pub use Rattle.domain_header.specs.Numbered
pub use Rattle.domain_header.specs.Tables
pub use Rattle.domain_message.specs.Entries
pub use Rattle.domain_message.specs.Once
pub use Rattle.domain_message.specs.LeftToTarget
pub use Rattle.domain_message.specs.Sections
pub use Rattle.domain_message.specs.Runs
pub use Rattle.domain_message.specs.Aliases
pub use Rattle.domain_message.specs.Answering
pub use Rattle.domain_message.specs.Kept
pub use Rattle.domain_stream.specs.Framing
pub use Rattle.domain_stream.specs.Errors as StreamErrors
pub use Rattle.domain_stream.specs.Readers as StreamReaders
pub use Rattle.domain_stream.specs.Views as StreamViews
pub use Rattle.domain_stream.specs.Laws as StreamLaws
pub use Rattle.domain_message.specs.Options
pub use Rattle.domain_message.specs.OptRecords
pub use Rattle.domain_message.specs.OptDataViews
pub use Rattle.domain_message.specs.FirstOptions
pub use Rattle.domain_message.specs.LastRecords
pub use Rattle.domain_message.specs.TsigFields
pub use Rattle.domain_message.specs.TsigRecords
pub use Rattle.domain_fields.specs.Data as FieldData
pub use Rattle.domain_fields.specs.Names as FieldNames
pub use Rattle.domain_fields.specs.Sequences
pub use Rattle.domain_data.specs.Shapes
pub use Rattle.domain_data.specs.Views as DataViews
pub use Rattle.domain_data.specs.HostFields
pub use Rattle.domain_data.specs.KeyFields
pub use Rattle.domain_data.specs.SignatureFields
pub use Rattle.domain_txt.specs.Strings
pub use Rattle.domain_txt.specs.Txts
pub use Rattle.domain_any_rdata.specs.AllData
pub use Rattle.domain_any_rdata.specs.Keys
pub use Rattle.domain_any_rdata.specs.Owned
pub use Rattle.domain_any_rdata.specs.Texts
pub use Rattle.domain_parsed.specs.Parses
